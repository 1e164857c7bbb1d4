use Rattle.std.proofs.Common.{◌≡◌, [], Ok, Err, refl, sym, ap, ◌∙◌, rules}
use Rattle.tile_io.specs.Checks.{field, count_in}
use Rattle.tile_text.specs.Fields.{place_field}
use Rattle.seq_text.specs.GrowthText.{names_of}
use Rattle.seq_text.specs.declared.action.Action.TheVariants as actions
use Rattle.seq_text.specs.Inner.Kinds.{action_row}
use Rattle.seq_text.proofs.Fields.{type_found}
use Rattle.seq_text.proofs.schedule.read_claim.Goals as goal

pub returns-in_err-place : goal.returns-in_err-place
returns-in_err-place c =
    let sys = c.args.system.now in
    let words = c.args.words.now in
    let who : count_in 0 4294967295 (field words 1) ≡ Ok c.in_ok-who.who = ap (count_in 0 4294967295) (sym c.word.ensures) ∙ sym c.in_ok-who.ensures in
    let read : place_field (names_of sys) (field words 2) (field words 3) (field words 4) ≡ Err c.in_err-place.field-0.0 =
    rw (sym c.word-2.ensures, sym c.word-3.ensures, sym c.word-name.ensures) (sym (c.in_err-place.ensures.place (names_of sys) (c.find_type-found.ensures.index ∙ type_found sys c.word-name.result.now))) in
    let bad : Err c.in_err-place.field-0.0 ≡ (action_row sys actions.Claim).fields [] words = rw (who, read) refl in
    search (rules, bad)

pub returns : goal.returns
returns c =
    let sys = c.args.system.now in
    let words = c.args.words.now in
    let who : count_in 0 4294967295 (field words 1) ≡ Ok c.in_ok-who.who = ap (count_in 0 4294967295) (sym c.word.ensures) ∙ sym c.in_ok-who.ensures in
    let read : place_field (names_of sys) (field words 2) (field words 3) (field words 4) ≡ Ok c.in_ok-place.place =
    rw (sym c.word-2.ensures, sym c.word-3.ensures, sym c.word-name.ensures) (sym (c.in_ok-place.ensures.place (names_of sys) (c.find_type-found.ensures.index ∙ type_found sys c.word-name.result.now))) in
    rw (who, read) refl
