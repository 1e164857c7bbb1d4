use Rattle.std.proofs.Common.{◌≡◌, List, ℕ, Result, Ok, Err, is_some, ap, refl, sym, ◌∙◌, rules}
use Rattle.tile_io.specs.declared.fault.Cause.{Cause}
use Rattle.tile_io.specs.Checks.{field, referred}
use Rattle.machine_text.specs.Machines.{is_short_name}
use Rattle.quadrant_compile.specs.QuadrantText.{rule_in}
use Rattle.quadrant_compile.specs.Inner.SoFar.{quadrant_in}
use Rattle.quadrant_compile.proofs.take.read_rule.Goals as goal

abbrev number : List (List ℕ) → List ℕ → Result ℕ Cause
number names word = referred is_short_name names word

pub returns-in_err-south-clause-rule : goal.returns-in_err-south-clause-rule
unfolding rule_in
returns-in_err-south-clause-rule c =
    let parts = c.args.parts.now in
    let words = c.args.words.now in
    let west : number parts.symbols (field words 1) ≡ Ok c.in_ok-west.west = ap (number parts.symbols) (sym c.word.ensures) ∙ sym c.in_ok-west.ensures.number in
    let south : number parts.symbols (field words 2) ≡ Err c.in_err-south.field-0.0 = ap (number parts.symbols) (sym c.word-2.ensures) ∙ sym c.in_err-south.ensures.number in
    let bad : Err c.in_err-south.field-0.0 ≡ rule_in (quadrant_in parts) words = rw (west, south) refl in
    search (rules, bad)

pub returns-then-is_some-clause-rule : goal.returns-then-is_some-clause-rule
unfolding rule_in
returns-then-is_some-clause-rule c =
    let parts = c.args.parts.now in
    let words = c.args.words.now in
    let west : number parts.symbols (field words 1) ≡ Ok c.in_ok-west.west = ap (number parts.symbols) (sym c.word.ensures) ∙ sym c.in_ok-west.ensures.number in
    let south : number parts.symbols (field words 2) ≡ Ok c.in_ok-south.south = ap (number parts.symbols) (sym c.word-2.ensures) ∙ sym c.in_ok-south.ensures.number in
    let taken = ap is_some (sym c.find.ensures) ∙ sym c.is_some.ensures ∙ c.if-is_some.true in
    rw (west, south, taken) refl

pub returns-in_err-east-clause-rule : goal.returns-in_err-east-clause-rule
unfolding rule_in
returns-in_err-east-clause-rule c =
    let parts = c.args.parts.now in
    let words = c.args.words.now in
    let west : number parts.symbols (field words 1) ≡ Ok c.in_ok-west.west = ap (number parts.symbols) (sym c.word.ensures) ∙ sym c.in_ok-west.ensures.number in
    let south : number parts.symbols (field words 2) ≡ Ok c.in_ok-south.south = ap (number parts.symbols) (sym c.word-2.ensures) ∙ sym c.in_ok-south.ensures.number in
    let free = ap is_some (sym c.find.ensures) ∙ sym c.is_some.ensures ∙ c.if-is_some.false in
    let east : number parts.symbols (field words 3) ≡ Err c.in_err-east.field-0.0 = ap (number parts.symbols) (sym c.word-3.ensures) ∙ sym c.in_err-east.ensures.number in
    let bad : Err c.in_err-east.field-0.0 ≡ rule_in (quadrant_in parts) words = rw (west, south, free, east) refl in
    search (rules, bad)

pub returns-in_err-north-clause-rule : goal.returns-in_err-north-clause-rule
unfolding rule_in
returns-in_err-north-clause-rule c =
    let parts = c.args.parts.now in
    let words = c.args.words.now in
    let west : number parts.symbols (field words 1) ≡ Ok c.in_ok-west.west = ap (number parts.symbols) (sym c.word.ensures) ∙ sym c.in_ok-west.ensures.number in
    let south : number parts.symbols (field words 2) ≡ Ok c.in_ok-south.south = ap (number parts.symbols) (sym c.word-2.ensures) ∙ sym c.in_ok-south.ensures.number in
    let free = ap is_some (sym c.find.ensures) ∙ sym c.is_some.ensures ∙ c.if-is_some.false in
    let east : number parts.symbols (field words 3) ≡ Ok c.in_ok-east.east = ap (number parts.symbols) (sym c.word-3.ensures) ∙ sym c.in_ok-east.ensures.number in
    let north : number parts.symbols (field words 4) ≡ Err c.in_err-north.field-0.0 = ap (number parts.symbols) (sym c.word-4.ensures) ∙ sym c.in_err-north.ensures.number in
    let bad : Err c.in_err-north.field-0.0 ≡ rule_in (quadrant_in parts) words = rw (west, south, free, east, north) refl in
    search (rules, bad)

pub returns-clause-rule : goal.returns-clause-rule
unfolding rule_in
returns-clause-rule c =
    let parts = c.args.parts.now in
    let words = c.args.words.now in
    let west : number parts.symbols (field words 1) ≡ Ok c.in_ok-west.west = ap (number parts.symbols) (sym c.word.ensures) ∙ sym c.in_ok-west.ensures.number in
    let south : number parts.symbols (field words 2) ≡ Ok c.in_ok-south.south = ap (number parts.symbols) (sym c.word-2.ensures) ∙ sym c.in_ok-south.ensures.number in
    let free = ap is_some (sym c.find.ensures) ∙ sym c.is_some.ensures ∙ c.if-is_some.false in
    let east : number parts.symbols (field words 3) ≡ Ok c.in_ok-east.east = ap (number parts.symbols) (sym c.word-3.ensures) ∙ sym c.in_ok-east.ensures.number in
    let north : number parts.symbols (field words 4) ≡ Ok c.in_ok-north.north = ap (number parts.symbols) (sym c.word-4.ensures) ∙ sym c.in_ok-north.ensures.number in
    rw (west, south, free, east, north) refl
