-- Laws of quadrants and of their tiles, for every quadrant.
use Rattle.std.specs.Prelude.{◌≡◌, ℕ, suc, ◌<◌, ◌≤◌, List, Option, Some, length, slice_get, option_map}
use Rattle.atam.specs.declared.place.Place.{Place}
use Rattle.atam.specs.Sites.{InBox}
use Rattle.atam.specs.Placements.{HasDistinctSites, tile_at}
use Rattle.atam.specs.TileSystem.{IsValid}
use Rattle.atam.specs.Growth.{IsLegal, IsProducible, IsClosedInBox}
use Rattle.design.specs.TileSets.{cell_site, type_id}
use Rattle.design.specs.Laws.{HasDeterministicGrowth}
use Rattle.quadrant_compile.specs.declared.tile.Kind.{Kind}
use Rattle.quadrant_compile.specs.Quadrants.{RuleQuadrant, IsQuadrant}
use Rattle.quadrant_compile.specs.Recurrence.{IsRecurrence, east, north}
use Rattle.quadrant_compile.specs.Recurrence.{cell_for, kind_at}
use Rattle.quadrant_compile.specs.QuadrantSystems.{tiles_of, quadrant_system}

-- what goes east and what goes north is the recurrence's
abbrev pub TheRecurrenceIsMet : Type 0
TheRecurrenceIsMet = (q : RuleQuadrant) → IsRecurrence q (east q) (north q)

-- which no other two are
abbrev pub TheRecurrenceIsOne : Type 0
TheRecurrenceIsOne = (q : RuleQuadrant) (e n : ℕ → ℕ → Option ℕ) → IsRecurrence q e n → (i j : ℕ) → (e i (suc j) ≡ east q i (suc j)) × (n (suc i) j ≡ north q (suc i) j)

-- a place in column i of row j has the tile that belongs there
pub record IsInQuadrant (q : RuleQuadrant) (p : Place) : Type 0 where
  pub column : ℕ
  pub row : ℕ
  pub kind : Kind
  pub site : p.site ≡ cell_site column row
  pub there : kind_at q column row ≡ Some kind
  pub tile : p.tile ≡ type_id (tiles_of q) kind

-- each place of a legal list does so
abbrev pub PlacesAreOfTheQuadrant : Type 0
PlacesAreOfTheQuadrant = (q : RuleQuadrant) (s : List Place) → IsQuadrant q → IsLegal (quadrant_system q) s → (i : ℕ) (p : Place) → slice_get s i ≡ Some p → IsInQuadrant q p

-- and lies in the box
abbrev pub PlacesAreInTheBox : Type 0
PlacesAreInTheBox = (q : RuleQuadrant) (s : List Place) → IsQuadrant q → IsLegal (quadrant_system q) s → (i : ℕ) (p : Place) → slice_get s i ≡ Some p → InBox (quadrant_system q).area p.site

-- an assembly of the quadrant's tiles that nothing extends in the box
pub record IsFullGrowth (q : RuleQuadrant) (tiles : List Place) : Type 0 where
  pub producible : IsProducible (quadrant_system q) tiles
  pub distinct : HasDistinctSites tiles
  pub closed : IsClosedInBox (quadrant_system q) tiles

-- it has the tile that belongs in each column of each row, and nothing where none does
abbrev pub FullGrowthsAreTheQuadrant : Type 0
FullGrowthsAreTheQuadrant = (q : RuleQuadrant) (tiles : List Place) → IsQuadrant q → IsFullGrowth q tiles → (i j : ℕ) → i ≤ q.width → j ≤ q.height →
    tile_at tiles (cell_site i j) ≡ option_map (type_id (tiles_of q)) (kind_at q i j)

-- in a cell that is the tile for what the recurrence has there, whichever two functions it is told by, or none
abbrev pub FullGrowthsShowTheRecurrence : Type 0
FullGrowthsShowTheRecurrence = (q : RuleQuadrant) (tiles : List Place) (e n : ℕ → ℕ → Option ℕ) → IsQuadrant q → IsRecurrence q e n → IsFullGrowth q tiles → (i j : ℕ) → i < q.width → j < q.height →
    tile_at tiles (cell_site (suc i) (suc j)) ≡ option_map (type_id (tiles_of q)) (cell_for q (e i (suc j)) (n (suc i) j))

-- some list of placements in the box is locally deterministic
abbrev pub QuadrantsAreDeterministic : Type 0
QuadrantsAreDeterministic =
    (q : RuleQuadrant) → IsQuadrant q → HasDeterministicGrowth (quadrant_system q)

-- the system of every quadrant is within all limits, and no two of its names are alike
abbrev pub QuadrantSystemsAreValid : Type 0
QuadrantSystemsAreValid = (q : RuleQuadrant) → IsQuadrant q → IsValid (quadrant_system q)

-- and it has at most so many glues and types
abbrev pub QuadrantSystemsAreSmall : Type 0
QuadrantSystemsAreSmall = (q : RuleQuadrant) → IsQuadrant q → (length (quadrant_system q).glues ≤ 2174) × (length (quadrant_system q).types ≤ 6143)
