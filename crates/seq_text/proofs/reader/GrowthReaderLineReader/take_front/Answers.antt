use Rattle.std.proofs.Common.{◌≡◌, ℕ, Bool, List, Some, refl, sym, subst, ◌∙◌}
use Rattle.std.specs.Prelude.{is_some}
use Rattle.tile_io.specs.Lines.{words_of}
use Rattle.atam.specs.declared.site.Site.{Site}
use Rattle.atam.specs.declared.place.Place.{Place}
use Rattle.atam.specs.declared.place.TypeId.{TypeId}
use Rattle.atam.specs.Sites.{InBox}
use Rattle.atam.specs.TileSystem.{TileSystem, IsValid, IsType, type_name}
use Rattle.tile_system.specs.Names.{type_named}
use Rattle.tile_text.proofs.Boxes.{inside_passes}
use Rattle.seq_text.specs.GrowthText.{GrowthItem, growth_table}
use Rattle.seq_text.specs.declared.reader.GrowthReader.{GrowthReader}
use Rattle.seq_text.specs.Inner.Plain.{BeginsPlain}
use Rattle.seq_text.specs.Inner.SoFar.{HoldsLines}
use Rattle.seq_text.proofs.Growths.{holds_place}
use Rattle.seq_text.proofs.PlainLines.{BeginsWithPlace, plain_front, place_taken}
use Rattle.seq_text.proofs.Printed.{named_type}
use Rattle.seq_text.proofs.Scratch.{placed_item, places_of, stands_is}
use Rattle.seq_text.proofs.reader.GrowthReaderLineReader.take_front.Goals as goal

-- a `place` line in its plain form, with a type that was found by its name
front_found : (distinct : Bool) (sys : TileSystem) (text : List ℕ) (m : Site) (name : List ℕ) (count : ℕ) (t : TypeId) → IsValid sys → BeginsPlain text m name count →
    IsType sys t → type_name sys t ≡ name → Some t.0 ≡ type_named sys.types name → InBox sys.area m → BeginsWithPlace distinct sys text (record { site = m; tile = t }) count
front_found distinct sys text m name count t valid plain known same found inside =
    plain_front distinct sys text m name count t plain (named_type sys valid t known name same) (sym found) (inside_passes sys.area m inside)

pub returns-in-Ok-clause-taken : goal.returns-in-Ok-clause-taken
unfolding growth_table
returns-in-Ok-clause-taken c =
    let r = c.args.self.now in
    let sys = r.system.now in
    let plain = c.in_ok-site.field-0 in
    let line = c.in_ok-site.ensures in
    let tile = c.in_ok-tile.tile in
    let named = c.in_ok-tile.ensures in
    let p : Place = record { site = plain.site; tile = tile } in
    let front = front_found (is_some r.grid) sys c.args.rest.now plain.site plain.name.now plain.length tile c.recall_valid.ensures.valid line.plain named.in_range named.named named.index line.inside in
    let new = c.hold.new.self in
    let after = c.in-Ok.ensures in
    record {
      line = front.line;
      begins = front.begins;
      count = front.count_is;
      taken = λ items held.
          let places = places_of items in
          let stands = stands_is sys r.sequence r.grid places plain.site held.places ∙ line.free in
          let taken = place_taken (is_some r.grid) sys r.last items held.kind (words_of front.line) p (front.place places stands) line.follows in
          let holds = holds_place sys r.sequence r.grid new.sequence new.grid r.last items p held after.box_area (after.added places held.places) in
          (placed_item p, taken, refl, rw (after.system, after.last) holds);
    }

pub returns-in-Err-clause-taken : goal.returns-in-Err-clause-taken
returns-in-Err-clause-taken c =
    let r = c.args.self.now in
    let plain = c.in_ok-site.field-0 in
    let line = c.in_ok-site.ensures in
    let named = c.in_ok-tile.ensures in
    let front = front_found (is_some r.grid) r.system.now c.args.rest.now plain.site plain.name.now plain.length c.in_ok-tile.tile c.recall_valid.ensures.valid line.plain named.in_range named.named named.index line.inside in
    let Holds : GrowthReader → List GrowthItem → Type 0 = λ s items. HoldsLines s.system.now s.sequence s.grid s.last items in
    record {
      line = front.line;
      begins = front.begins;
      count = front.count_is;
      taken = λ items held. let After : GrowthReader → Type 0 = λ s. Holds s items in subst After (sym c.in-Err.ensures.unchanged) held;
    }
