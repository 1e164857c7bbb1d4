use Rattle.std.proofs.Common.{◌≡◌, ℕ, true, List, [], ◌∷◌, ◌++◌, Some, Ok, refl, sym, ap, subst, ◌∙◌}
use Rattle.std.specs.Prelude.{is_none}
use Rattle.tile_io.specs.Lines.{words_of}
use Rattle.atam.specs.declared.site.Site.{Site}
use Rattle.atam.specs.declared.place.TypeId.{TypeId}
use Rattle.atam.specs.Placements.{tile_at}
use Rattle.atam.specs.Sites.{InBox}
use Rattle.atam.specs.TileSystem.{TileSystem, IsValid, IsType, type_name}
use Rattle.tile_system.specs.Names.{type_named}
use Rattle.tile_text.proofs.Boxes.{inside_passes}
use Rattle.seq_text.proofs.Printed.{named_type}
use Rattle.cert_check.specs.declared.entry.Entry.{Entry}
use Rattle.cert_check.specs.Certificates.{places_of}
use Rattle.cert_text.specs.CertificateText.{certificate_table}
use Rattle.cert_text.specs.Inner.Plain.{BeginsPlain}
use Rattle.cert_text.proofs.PlainLines.{BeginsWithMark, IsMarkLine, plain_front, mark_taken}
use Rattle.cert_text.proofs.SidesWords.{sides_field}
use Rattle.cert_text.proofs.reader.CertificateReaderLineReader.take_front.Goals as goal

-- a `mark` line in its plain form, with a type that was found by its name
front_found : (sys : TileSystem) (earlier : List Entry) (text : List ℕ) (m : Site) (name sides : List ℕ) (count : ℕ) (t : TypeId) (s r : ℕ) → IsValid sys → BeginsPlain text m name sides r count →
    IsType sys t → type_name sys t ≡ name → Some t.0 ≡ type_named sys.types name → sides_field sides ≡ Ok s → InBox sys.area m → is_none (tile_at (places_of earlier) m) ≡ true →
    BeginsWithMark sys earlier text (record { place = record { site = m; tile = t }; sides = s; rank = r }) count
front_found sys earlier text m name sides count t s r valid plain known same found of_sides inside free =
    plain_front sys earlier m name sides t s r (named_type sys valid t known name same) (sym found) of_sides (inside_passes sys.area m inside) free text count plain

pub returns-in-Ok-hold-clause-taken : goal.returns-in-Ok-hold-clause-taken
unfolding certificate_table
returns-in-Ok-hold-clause-taken c =
    let r = c.args.self.now in
    let sys = r.system.now in
    let mark = c.in_ok-mark.mark in
    let line = c.in_ok-mark.ensures in
    let tile = c.in_ok-tile.tile in
    let named = c.in_ok-tile.ensures in
    let sides = c.in-Ok.sides in
    let rank = mark.rank in
    let e : Entry = record { place = record { site = mark.site; tile = tile }; sides = sides; rank = rank } in
    let front = front_found sys r.entries.items c.args.rest.now mark.site mark.name.now mark.sides.now mark.length tile sides rank c.recall_valid.ensures.valid line.plain named.in_range named.named named.index (sym c.in-Ok.ensures.value) line.inside line.entries in
    let Line : List Entry → Type 0 = λ earlier. IsMarkLine sys earlier (words_of front.line) e in
    let after = c.in-Ok-hold.ensures in
    record {
      line = front.line;
      begins = front.begins;
      count = front.count_is;
      taken = λ items held. (e, mark_taken sys items (words_of front.line) e (subst Line held.same front.mark), refl, record { same = after.added ∙ ap (λ l. l ++ e ∷ []) held.same; kept = after.kept });
    }

pub returns-in-Err-clause-taken : goal.returns-in-Err-clause-taken
returns-in-Err-clause-taken c =
    let r = c.args.self.now in
    let sys = r.system.now in
    let mark = c.in_ok-mark.mark in
    let line = c.in_ok-mark.ensures in
    let named = c.in_ok-tile.ensures in
    let front = front_found sys r.entries.items c.args.rest.now mark.site mark.name.now mark.sides.now mark.length c.in_ok-tile.tile c.in-Ok.sides mark.rank c.recall_valid.ensures.valid line.plain named.in_range named.named named.index (sym c.in-Ok.ensures.value) line.inside line.entries in
    let after = c.in-Err.ensures in
    record {
      line = front.line;
      begins = front.begins;
      count = front.count_is;
      taken = λ items held. record { same = after.left ∙ held.same; kept = after.kept };
    }
