-- The input and output sides of the places of a sequence, and what was found with them.
use Rattle.std.specs.Prelude.{◌≡◌, ℕ, ◌<◌, Bool, false, ◌&&◌, nat_le, List, length, Option, slice_get}
use Rattle.std.specs.Option.{option_map_or}
use Rattle.atam.specs.declared.site.Side.{Side}
use Rattle.atam.specs.declared.site.Site.{Site}
use Rattle.atam.specs.declared.place.TypeId.{TypeId}
use Rattle.atam.specs.declared.place.Place.{Place}
use Rattle.atam.specs.Placements.{SamePlacements}
use Rattle.atam.specs.TileSystem.{TileSystem}
use Rattle.atam.specs.Determinism.{is_input, is_output}
use Rattle.type_cache.specs.SideSets.{SideSet, has}
use Rattle.type_index.specs.Indexes.{TypeLists, IsIndexOf}
use Rattle.local_check.specs.Judgement.{FindsInexact, FindsRival}

-- whether the set at an index has a side
abbrev pub has_at : List SideSet → ℕ → Side → Bool
has_at sets i d = option_map_or (λ sides. has sides d) (slice_get sets i) false

-- the tiles of a sequence, the number of seeds, for each place the sides that interact with the seeds or with an earlier place, and its output sides; an index of types; a site with a sum, and one with a type
pub record SideTable : Type 0 where
  pub tiles : List Place
  pub seeds : ℕ
  pub earlier : List SideSet
  pub outputs : List SideSet
  pub index : TypeLists
  pub inexact : Option (Site × ℕ)
  pub rival : Option (Site × TypeId)

-- whether a side of the place with this index is an input side, and whether it is an output side
abbrev pub input_at : SideTable → ℕ → Side → Bool
input_at sides i d = nat_le sides.seeds i && has_at sides.earlier i d

abbrev pub output_at : SideTable → ℕ → Side → Bool
output_at sides i d = has_at sides.outputs i d

-- the sides of the places of a sequence, the first place that isn't held exactly, and the first that has a rival
pub record AreSidesOf (sys : TileSystem) (s : List Place) (sides : SideTable) : Type 0 where
  pub same : SamePlacements s sides.tiles
  pub count : length sides.outputs ≡ length s
  pub inputs : (i : ℕ) (d : Side) → i < length s → input_at sides i d ≡ is_input sys s i d
  pub outputs : (i : ℕ) (d : Side) → i < length s → output_at sides i d ≡ is_output sys s i d
  pub index : IsIndexOf sys sides.index
  pub inexact : FindsInexact sys s (length s) sides.inexact
  pub rival : FindsRival sys s (length s) sides.rival
