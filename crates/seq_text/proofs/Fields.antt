-- The fields that name a type, and what a `place` line that passed says of its place.
use Rattle.std.proofs.Common.{◌≡◌, ℕ, ◌<◌, Bool, true, List, length, Some, Ok, refl, sym, subst, ◌∙◌, arith}
use Rattle.std.specs.Prelude.{position, bytes_eq}
use Rattle.std.proofs.lemmas.List.{length-map}
use Rattle.tile_io.specs.declared.fault.Cause.TheVariants.{OutsideBox, DoubleSite}
use Rattle.tile_io.specs.Checks.{◌>>=◌, require, field}
use Rattle.tile_io.proofs.Checking.{bind_ok, require_ok}
use Rattle.atam.specs.declared.place.Place.{Place}
use Rattle.atam.specs.declared.place.TypeId.{TypeId}
use Rattle.atam.specs.TileSystem.{TileSystem, TileType, IsType, is_name}
use Rattle.tile_system.specs.Names.{type_named}
use Rattle.tile_text.specs.Fields.{place_field, site_field}
use Rattle.tile_text.specs.SystemText.{is_in_box}
use Rattle.tile_text.proofs.Built.{position_map}
use Rattle.tile_text.proofs.Inverse.{place_ok}
use Rattle.seq_text.proofs.Scratch.{placed_item, places_of, may_stand}
use Rattle.seq_text.specs.GrowthText.{GrowthItem, names_of, place_in}
use Rattle.seq_text.specs.Inner.Kinds.{row_of}
use Rattle.seq_text.specs.declared.kind.LineKind.TheVariants as kinds

-- a type's place in the system is that of its name
pub type_found : (sys : TileSystem) (name : List ℕ) → type_named sys.types name ≡ position (bytes_eq name) (names_of sys)
type_found sys name = sym (position_map (λ t. t.name) (bytes_eq name) sys.types)

-- the site of a tile whose name was found
pub place_of_found : (sys : TileSystem) (column row name : List ℕ) (t : TypeId) → is_name name ≡ true → type_named sys.types name ≡ Some t.0 →
    place_field (names_of sys) column row name ≡ (site_field column row >>= λ m. Ok (record { site = m; tile = t }))
unfolding place_field
place_of_found sys column row name t named found =
    let at : position (bytes_eq name) (names_of sys) ≡ Some t.0 = sym (type_found sys name) ∙ found in
    rw (named, at) refl

-- a place that may stand after those before it
pub record MayStand (distinct : Bool) (sys : TileSystem) (earlier : List Place) (p : Place) : Type 0 where
  pub kind : IsType sys p.tile
  pub inside : is_in_box sys.area p.site ≡ true
  pub free : may_stand distinct earlier p.site ≡ true

module _ (distinct : Bool) (sys : TileSystem) where
  pub place_stands : (earlier : List Place) (words : List (List ℕ)) (p : Place) → place_in distinct sys earlier words ≡ Ok p → MayStand distinct sys earlier p
  unfolding place_in
  place_stands earlier words p e =
      let read = place_field (names_of sys) (field words 1) (field words 2) (field words 3) in
      let one = bind_ok read (λ q. require (is_in_box sys.area q.site) OutsideBox >>= (λ _. require (may_stand distinct earlier q.site) DoubleSite >>= (λ _. Ok q))) p e in
      let two = bind_ok (require (is_in_box sys.area one.0.site) OutsideBox) (λ _. require (may_stand distinct earlier one.0.site) DoubleSite >>= (λ _. Ok one.0)) p one.2 in
      let three = bind_ok (require (may_stand distinct earlier one.0.site) DoubleSite) (λ _. Ok one.0) p two.2 in
      let same : one.0 ≡ p = cc (three.2) in
      let below = (place_ok (names_of sys) (field words 1) (field words 2) (field words 3) one.0 one.1).1 in
      let kind : one.0.tile.0 < length sys.types = omega (arith, below, length-map sys.types (λ (t : TileType). t.name)) in
      subst (MayStand distinct sys earlier) same (record {
        kind = kind;
        inside = require_ok (is_in_box sys.area one.0.site) OutsideBox two.0 two.1;
        free = require_ok (may_stand distinct earlier one.0.site) DoubleSite three.0 three.1;
      })

  pub place_item : (earlier : List GrowthItem) (words : List (List ℕ)) (item : GrowthItem) → (row_of distinct sys kinds.Place).fields earlier words ≡ Ok item → (p : Place) × (placed_item p ≡ item) × MayStand distinct sys (places_of earlier) p
  place_item earlier words item e =
      let one = bind_ok (place_in distinct sys (places_of earlier) words) (λ p. Ok (placed_item p)) item e in
      (one.0, cc (one.2), place_stands (places_of earlier) words one.0 one.1)
