use Rattle.std.proofs.Common.{◌≡◌, true, false, Ok, Err, refl, sym, ap, ◌∙◌, rules}
use Rattle.tile_io.specs.Checks.{field}
use Rattle.tile_text.specs.Fields.{place_field}
use Rattle.tile_text.specs.SystemText.{is_in_box}
use Rattle.tile_text.proofs.Boxes.{holds_is}
use Rattle.seq_text.specs.GrowthText.{names_of, place_in}
use Rattle.std.specs.Prelude.{is_some}
use Rattle.seq_text.proofs.Scratch.{may_stand, stands_is}
use Rattle.seq_text.proofs.reader.GrowthReader.read_fields.Goals as goal

pub returns-in_err-place-clause-place : goal.returns-in_err-place-clause-place
unfolding place_in
returns-in_err-place-clause-place c = λ places held.
    let r = c.args.self.now in
    let sys = r.system.now in
    let words = c.args.words.now in
    let read : place_field (names_of sys) (field words 1) (field words 2) (field words 3) ≡ Err c.in_err-place.field-0.0 =
    rw (sym c.word.ensures, sym c.word-2.ensures, sym c.word-3.ensures) (sym c.in_err-place.ensures.place) in
    let bad : Err c.in_err-place.field-0.0 ≡ place_in (is_some r.grid) sys places words = rw read refl in
    search (rules, bad)

pub returns-then-not-holds-clause-place : goal.returns-then-not-holds-clause-place
unfolding place_in
returns-then-not-holds-clause-place c = λ places held.
    let sys = c.args.self.now.system.now in
    let words = c.args.words.now in
    let site = c.in_ok-place.place.site in
    let read : place_field (names_of sys) (field words 1) (field words 2) (field words 3) ≡ Ok c.in_ok-place.place =
    rw (sym c.word.ensures, sym c.word-2.ensures, sym c.word-3.ensures) (sym c.in_ok-place.ensures.place) in
    let outside : is_in_box sys.area site ≡ false = ap (λ a. is_in_box a site) (sym c.area.ensures.area) ∙ sym (holds_is c.area.result site c.holds.result c.holds.ensures) ∙ c.if-not-holds.true in
    rw (read, outside) refl

pub returns-then-not-is_free-clause-place : goal.returns-then-not-is_free-clause-place
unfolding place_in
returns-then-not-is_free-clause-place c = λ places held.
    let r = c.args.self.now in
    let sys = r.system.now in
    let words = c.args.words.now in
    let site = c.in_ok-place.place.site in
    let read : place_field (names_of sys) (field words 1) (field words 2) (field words 3) ≡ Ok c.in_ok-place.place =
    rw (sym c.word.ensures, sym c.word-2.ensures, sym c.word-3.ensures) (sym c.in_ok-place.ensures.place) in
    let inside : is_in_box sys.area site ≡ true = ap (λ a. is_in_box a site) (sym c.area.ensures.area) ∙ sym (holds_is c.area.result site c.holds.result c.holds.ensures) ∙ c.if-not-holds.false in
    let taken : may_stand (is_some r.grid) places site ≡ false = stands_is sys r.sequence r.grid places site held ∙ sym c.is_free.ensures ∙ c.if-not-is_free.true in
    rw (read, inside, taken) refl

pub returns-clause-place : goal.returns-clause-place
unfolding place_in
returns-clause-place c = λ places held.
    let r = c.args.self.now in
    let sys = r.system.now in
    let words = c.args.words.now in
    let site = c.in_ok-place.place.site in
    let read : place_field (names_of sys) (field words 1) (field words 2) (field words 3) ≡ Ok c.in_ok-place.place =
    rw (sym c.word.ensures, sym c.word-2.ensures, sym c.word-3.ensures) (sym c.in_ok-place.ensures.place) in
    let inside : is_in_box sys.area site ≡ true = ap (λ a. is_in_box a site) (sym c.area.ensures.area) ∙ sym (holds_is c.area.result site c.holds.result c.holds.ensures) ∙ c.if-not-holds.false in
    let free : may_stand (is_some r.grid) places site ≡ true = stands_is sys r.sequence r.grid places site held ∙ sym c.is_free.ensures ∙ c.if-not-is_free.false in
    rw (read, inside, free) refl
