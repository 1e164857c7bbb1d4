use Rattle.std.proofs.Common.{◌≡◌, true, false, Ok, Err, refl, sym, ap, ◌∙◌, rules}
use Rattle.tile_io.specs.Checks.{field, count_in}
use Rattle.tile_text.specs.Fields.{place_field}
use Rattle.tile_text.specs.SystemText.{is_in_box}
use Rattle.tile_text.proofs.Boxes.{holds_is}
use Rattle.seq_text.specs.GrowthText.{names_of}
use Rattle.seq_text.proofs.Fields.{type_found}
use Rattle.cert_text.specs.CertificateText.{mark_row}
use Rattle.cert_text.proofs.SidesWords.{sides_field}
use Rattle.cert_text.proofs.reader.CertificateReader.next_entry.Goals as goal

pub returns-in_err-place-clause-entry : goal.returns-in_err-place-clause-entry
returns-in_err-place-clause-entry c =
    let sys = c.args.self.now.system.now in
    let earlier = c.args.self.now.entries.items in
    let words = c.args.words.now in
    let read : place_field (names_of sys) (field words 1) (field words 2) (field words 3) ≡ Err c.in_err-place.field-0.0 =
    rw (sym c.word.ensures, sym c.word-2.ensures, sym c.word-name.ensures) (sym (c.in_err-place.ensures.place (names_of sys) (c.find_type-found.ensures.index ∙ type_found sys c.word-name.result.now))) in
    let bad : Err c.in_err-place.field-0.0 ≡ (mark_row sys).fields earlier words = rw read refl in
    search (rules, bad)

pub returns-in_err-sides-clause-entry : goal.returns-in_err-sides-clause-entry
returns-in_err-sides-clause-entry c =
    let sys = c.args.self.now.system.now in
    let earlier = c.args.self.now.entries.items in
    let words = c.args.words.now in
    let read : place_field (names_of sys) (field words 1) (field words 2) (field words 3) ≡ Ok c.in_ok-place.place =
    rw (sym c.word.ensures, sym c.word-2.ensures, sym c.word-name.ensures) (sym (c.in_ok-place.ensures.place (names_of sys) (c.find_type-found.ensures.index ∙ type_found sys c.word-name.result.now))) in
    let sides : sides_field (field words 4) ≡ Err c.in_err-sides.field-0.0 = ap sides_field (sym c.word-3.ensures) ∙ sym c.in_err-sides.ensures.value in
    let bad : Err c.in_err-sides.field-0.0 ≡ (mark_row sys).fields earlier words = rw (read, sides) refl in
    search (rules, bad)

pub returns-in_err-rank-clause-entry : goal.returns-in_err-rank-clause-entry
returns-in_err-rank-clause-entry c =
    let sys = c.args.self.now.system.now in
    let earlier = c.args.self.now.entries.items in
    let words = c.args.words.now in
    let read : place_field (names_of sys) (field words 1) (field words 2) (field words 3) ≡ Ok c.in_ok-place.place =
    rw (sym c.word.ensures, sym c.word-2.ensures, sym c.word-name.ensures) (sym (c.in_ok-place.ensures.place (names_of sys) (c.find_type-found.ensures.index ∙ type_found sys c.word-name.result.now))) in
    let sides : sides_field (field words 4) ≡ Ok c.in_ok-sides.sides = ap sides_field (sym c.word-3.ensures) ∙ sym c.in_ok-sides.ensures.value in
    let rank : count_in 0 4294967295 (field words 5) ≡ Err c.in_err-rank.field-0.0 = ap (count_in 0 4294967295) (sym c.word-4.ensures) ∙ sym c.in_err-rank.ensures in
    let bad : Err c.in_err-rank.field-0.0 ≡ (mark_row sys).fields earlier words = rw (read, sides, rank) refl in
    search (rules, bad)

pub returns-then-not-holds-clause-entry : goal.returns-then-not-holds-clause-entry
returns-then-not-holds-clause-entry c =
    let sys = c.args.self.now.system.now in
    let words = c.args.words.now in
    let site = c.in_ok-place.place.site in
    let read : place_field (names_of sys) (field words 1) (field words 2) (field words 3) ≡ Ok c.in_ok-place.place =
    rw (sym c.word.ensures, sym c.word-2.ensures, sym c.word-name.ensures) (sym (c.in_ok-place.ensures.place (names_of sys) (c.find_type-found.ensures.index ∙ type_found sys c.word-name.result.now))) in
    let sides : sides_field (field words 4) ≡ Ok c.in_ok-sides.sides = ap sides_field (sym c.word-3.ensures) ∙ sym c.in_ok-sides.ensures.value in
    let rank : count_in 0 4294967295 (field words 5) ≡ Ok c.in_ok-rank.rank = ap (count_in 0 4294967295) (sym c.word-4.ensures) ∙ sym c.in_ok-rank.ensures in
    let outside : is_in_box sys.area site ≡ false = ap (λ a. is_in_box a site) (sym c.area.ensures.area) ∙ sym (holds_is c.area.result site c.holds.result c.holds.ensures) ∙ c.if-not-holds.true in
    rw (read, sides, rank, outside) refl

pub returns-then-not-is_free-clause-entry : goal.returns-then-not-is_free-clause-entry
returns-then-not-is_free-clause-entry c =
    let sys = c.args.self.now.system.now in
    let words = c.args.words.now in
    let site = c.in_ok-place.place.site in
    let read : place_field (names_of sys) (field words 1) (field words 2) (field words 3) ≡ Ok c.in_ok-place.place =
    rw (sym c.word.ensures, sym c.word-2.ensures, sym c.word-name.ensures) (sym (c.in_ok-place.ensures.place (names_of sys) (c.find_type-found.ensures.index ∙ type_found sys c.word-name.result.now))) in
    let sides : sides_field (field words 4) ≡ Ok c.in_ok-sides.sides = ap sides_field (sym c.word-3.ensures) ∙ sym c.in_ok-sides.ensures.value in
    let rank : count_in 0 4294967295 (field words 5) ≡ Ok c.in_ok-rank.rank = ap (count_in 0 4294967295) (sym c.word-4.ensures) ∙ sym c.in_ok-rank.ensures in
    let inside : is_in_box sys.area site ≡ true = ap (λ a. is_in_box a site) (sym c.area.ensures.area) ∙ sym (holds_is c.area.result site c.holds.result c.holds.ensures) ∙ c.if-not-holds.false in
    rw (read, sides, rank, inside, sym c.is_free.ensures.entries ∙ c.if-not-is_free.true) refl

pub returns-clause-entry : goal.returns-clause-entry
returns-clause-entry c =
    let sys = c.args.self.now.system.now in
    let words = c.args.words.now in
    let site = c.in_ok-place.place.site in
    let read : place_field (names_of sys) (field words 1) (field words 2) (field words 3) ≡ Ok c.in_ok-place.place =
    rw (sym c.word.ensures, sym c.word-2.ensures, sym c.word-name.ensures) (sym (c.in_ok-place.ensures.place (names_of sys) (c.find_type-found.ensures.index ∙ type_found sys c.word-name.result.now))) in
    let sides : sides_field (field words 4) ≡ Ok c.in_ok-sides.sides = ap sides_field (sym c.word-3.ensures) ∙ sym c.in_ok-sides.ensures.value in
    let rank : count_in 0 4294967295 (field words 5) ≡ Ok c.in_ok-rank.rank = ap (count_in 0 4294967295) (sym c.word-4.ensures) ∙ sym c.in_ok-rank.ensures in
    let inside : is_in_box sys.area site ≡ true = ap (λ a. is_in_box a site) (sym c.area.ensures.area) ∙ sym (holds_is c.area.result site c.holds.result c.holds.ensures) ∙ c.if-not-holds.false in
    rw (read, sides, rank, inside, sym c.is_free.ensures.entries ∙ c.if-not-is_free.false) refl
