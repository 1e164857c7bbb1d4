use Rattle.std.proofs.Common.{◌≡◌, Err, refl, sym, rules}
use Rattle.std.specs.Prelude.{is_some}
use Rattle.seq_text.proofs.Scratch.{placed_item, places_of}
use Rattle.seq_text.specs.Inner.Kinds.{row_of}
use Rattle.seq_text.specs.declared.kind.LineKind.TheVariants as kinds
use Rattle.seq_text.proofs.Growths.{holds_place}
use Rattle.seq_text.proofs.reader.GrowthReader.take_place.Goals as goal

pub returns-in_err-place-clause-taken : goal.returns-in_err-place-clause-taken
returns-in_err-place-clause-taken c = λ items held.
    let r = c.args.self.now in
    let words = c.args.words.now in
    let read = sym (c.in_err-place.ensures.place (places_of items) held.places) in
    let bad : (row_of (is_some r.grid) r.system.now kinds.Place).fields items words ≡ Err c.in_err-place.field-0.0 = rw read refl in
    search (rules, bad, held)

pub returns-in-Ok-clause-taken : goal.returns-in-Ok-clause-taken
returns-in-Ok-clause-taken c = λ items held.
    let r = c.args.self.now in
    let p = c.in_ok-place.place in
    let read = sym (c.in_ok-place.ensures.place (places_of items) held.places) in
    let new = c.hold.new.self in
    let after = c.in-Ok.ensures in
    let holds = holds_place r.system.now r.sequence r.grid new.sequence new.grid r.last items p held after.box_area (after.added (places_of items) held.places) in
    (placed_item p, rw read refl, refl, rw (after.system, after.last) holds)
