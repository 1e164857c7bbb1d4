use Rattle.std.proofs.Common.{◌≡◌, List, ℕ, Result, Ok, Err, is_some, ap, refl, sym, ◌∙◌, rules}
use Rattle.tile_io.specs.declared.fault.Cause.{Cause}
use Rattle.tile_io.specs.Checks.{field, referred}
use Rattle.machine_text.specs.Machines.{is_short_name}
use Rattle.machine_text.specs.MachineText.{transition_in, turn_field}
use Rattle.machine_text.specs.Inner.SoFar.{machine_in}
use Rattle.machine_text.proofs.take.read_rule.Goals as goal

abbrev number : List (List ℕ) → List ℕ → Result ℕ Cause
number names word = referred is_short_name names word

pub returns-in_err-symbol-clause-rule : goal.returns-in_err-symbol-clause-rule
unfolding transition_in
returns-in_err-symbol-clause-rule c =
    let parts = c.args.parts.now in
    let words = c.args.words.now in
    let state : number parts.states (field words 1) ≡ Ok c.in_ok-state.state = ap (number parts.states) (sym c.word.ensures) ∙ sym c.in_ok-state.ensures.number in
    let symbol : number parts.symbols (field words 2) ≡ Err c.in_err-symbol.field-0.0 = ap (number parts.symbols) (sym c.word-2.ensures) ∙ sym c.in_err-symbol.ensures.number in
    let bad : Err c.in_err-symbol.field-0.0 ≡ transition_in (machine_in parts) words = rw (state, symbol) refl in
    search (rules, bad)

pub returns-then-is_some-clause-rule : goal.returns-then-is_some-clause-rule
unfolding transition_in
returns-then-is_some-clause-rule c =
    let parts = c.args.parts.now in
    let words = c.args.words.now in
    let state : number parts.states (field words 1) ≡ Ok c.in_ok-state.state = ap (number parts.states) (sym c.word.ensures) ∙ sym c.in_ok-state.ensures.number in
    let symbol : number parts.symbols (field words 2) ≡ Ok c.in_ok-symbol.symbol = ap (number parts.symbols) (sym c.word-2.ensures) ∙ sym c.in_ok-symbol.ensures.number in
    let taken = ap is_some (sym c.find.ensures) ∙ sym c.is_some.ensures ∙ c.if-is_some.true in
    rw (state, symbol, taken) refl

pub returns-in_err-next_state-clause-rule : goal.returns-in_err-next_state-clause-rule
unfolding transition_in
returns-in_err-next_state-clause-rule c =
    let parts = c.args.parts.now in
    let words = c.args.words.now in
    let state : number parts.states (field words 1) ≡ Ok c.in_ok-state.state = ap (number parts.states) (sym c.word.ensures) ∙ sym c.in_ok-state.ensures.number in
    let symbol : number parts.symbols (field words 2) ≡ Ok c.in_ok-symbol.symbol = ap (number parts.symbols) (sym c.word-2.ensures) ∙ sym c.in_ok-symbol.ensures.number in
    let free = ap is_some (sym c.find.ensures) ∙ sym c.is_some.ensures ∙ c.if-is_some.false in
    let next_state : number parts.states (field words 3) ≡ Err c.in_err-next_state.field-0.0 = ap (number parts.states) (sym c.word-3.ensures) ∙ sym c.in_err-next_state.ensures.number in
    let bad : Err c.in_err-next_state.field-0.0 ≡ transition_in (machine_in parts) words = rw (state, symbol, free, next_state) refl in
    search (rules, bad)

pub returns-in_err-next_symbol-clause-rule : goal.returns-in_err-next_symbol-clause-rule
unfolding transition_in
returns-in_err-next_symbol-clause-rule c =
    let parts = c.args.parts.now in
    let words = c.args.words.now in
    let state : number parts.states (field words 1) ≡ Ok c.in_ok-state.state = ap (number parts.states) (sym c.word.ensures) ∙ sym c.in_ok-state.ensures.number in
    let symbol : number parts.symbols (field words 2) ≡ Ok c.in_ok-symbol.symbol = ap (number parts.symbols) (sym c.word-2.ensures) ∙ sym c.in_ok-symbol.ensures.number in
    let free = ap is_some (sym c.find.ensures) ∙ sym c.is_some.ensures ∙ c.if-is_some.false in
    let next_state : number parts.states (field words 3) ≡ Ok c.in_ok-next_state.next_state = ap (number parts.states) (sym c.word-3.ensures) ∙ sym c.in_ok-next_state.ensures.number in
    let next_symbol : number parts.symbols (field words 4) ≡ Err c.in_err-next_symbol.field-0.0 = ap (number parts.symbols) (sym c.word-4.ensures) ∙ sym c.in_err-next_symbol.ensures.number in
    let bad : Err c.in_err-next_symbol.field-0.0 ≡ transition_in (machine_in parts) words = rw (state, symbol, free, next_state, next_symbol) refl in
    search (rules, bad)

pub returns-in_err-turn-clause-rule : goal.returns-in_err-turn-clause-rule
unfolding transition_in
returns-in_err-turn-clause-rule c =
    let parts = c.args.parts.now in
    let words = c.args.words.now in
    let state : number parts.states (field words 1) ≡ Ok c.in_ok-state.state = ap (number parts.states) (sym c.word.ensures) ∙ sym c.in_ok-state.ensures.number in
    let symbol : number parts.symbols (field words 2) ≡ Ok c.in_ok-symbol.symbol = ap (number parts.symbols) (sym c.word-2.ensures) ∙ sym c.in_ok-symbol.ensures.number in
    let free = ap is_some (sym c.find.ensures) ∙ sym c.is_some.ensures ∙ c.if-is_some.false in
    let next_state : number parts.states (field words 3) ≡ Ok c.in_ok-next_state.next_state = ap (number parts.states) (sym c.word-3.ensures) ∙ sym c.in_ok-next_state.ensures.number in
    let next_symbol : number parts.symbols (field words 4) ≡ Ok c.in_ok-next_symbol.next_symbol = ap (number parts.symbols) (sym c.word-4.ensures) ∙ sym c.in_ok-next_symbol.ensures.number in
    let turn : turn_field (field words 5) ≡ Err c.in_err-turn.field-0.0 = ap turn_field (sym c.word-5.ensures) ∙ sym c.in_err-turn.ensures in
    let bad : Err c.in_err-turn.field-0.0 ≡ transition_in (machine_in parts) words = rw (state, symbol, free, next_state, next_symbol, turn) refl in
    search (rules, bad)

pub returns-clause-rule : goal.returns-clause-rule
unfolding transition_in
returns-clause-rule c =
    let parts = c.args.parts.now in
    let words = c.args.words.now in
    let state : number parts.states (field words 1) ≡ Ok c.in_ok-state.state = ap (number parts.states) (sym c.word.ensures) ∙ sym c.in_ok-state.ensures.number in
    let symbol : number parts.symbols (field words 2) ≡ Ok c.in_ok-symbol.symbol = ap (number parts.symbols) (sym c.word-2.ensures) ∙ sym c.in_ok-symbol.ensures.number in
    let free = ap is_some (sym c.find.ensures) ∙ sym c.is_some.ensures ∙ c.if-is_some.false in
    let next_state : number parts.states (field words 3) ≡ Ok c.in_ok-next_state.next_state = ap (number parts.states) (sym c.word-3.ensures) ∙ sym c.in_ok-next_state.ensures.number in
    let next_symbol : number parts.symbols (field words 4) ≡ Ok c.in_ok-next_symbol.next_symbol = ap (number parts.symbols) (sym c.word-4.ensures) ∙ sym c.in_ok-next_symbol.ensures.number in
    let turn : turn_field (field words 5) ≡ Ok c.in_ok-turn.turn = ap turn_field (sym c.word-5.ensures) ∙ sym c.in_ok-turn.ensures in
    rw (state, symbol, free, next_state, next_symbol, turn) refl
