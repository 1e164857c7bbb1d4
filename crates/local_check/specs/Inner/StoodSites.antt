-- The sites of a box at which tiles stood, by their numbers.
use Rattle.std.specs.Prelude.{◌≡◌, ℕ, ◌<◌, Bool, List, length, All, Some, slice_get, is_some}
use Rattle.atam.specs.declared.place.Place.{Place}
use Rattle.atam.specs.declared.area.BoxArea.{BoxArea}
use Rattle.atam.specs.Sites.{InBox, IsBox}
use Rattle.atam.specs.Placements.{tile_at}
use Rattle.assembly.specs.Cells.{cell_count, site_at}

-- for each number of a site of the box, whether a tile stood there
pub record StoodTable : Type 0 where
  pub area : BoxArea
  pub stood : List Bool

-- there is an entry for each site of the box
pub record HasEachSite (area : BoxArea) (stood : List Bool) : Type 0 where
  pub limits : IsBox area
  pub count : length stood ≡ cell_count area

-- all these places are in the box, and it is told of each of its sites whether one of them is there
pub record TellsSites (sites : StoodTable) (tiles : List Place) : Type 0 where
  pub inside : All (λ p. InBox sites.area p.site) tiles
  pub each : (i : ℕ) → i < cell_count sites.area → slice_get sites.stood i ≡ Some (is_some (tile_at tiles (site_at sites.area i)))
