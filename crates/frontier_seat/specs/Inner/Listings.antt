-- Sites that are to be looked at, by their numbers.
use Rattle.std.specs.Prelude.{◌≡◌, ◌≢◌, ◌⊎◌, ℕ, ◌+◌, ◌≤◌, ◌<◌, List, Option, Some, None}
use Rattle.atam.specs.declared.site.Side.{Side}
use Rattle.atam.specs.declared.site.Site.{Site}
use Rattle.atam.specs.declared.place.TypeId.{TypeId}
use Rattle.atam.specs.declared.place.Place.{Place}
use Rattle.atam.specs.declared.area.BoxArea.{BoxArea}
use Rattle.atam.specs.Sites.{neighbor, site_in, InBox, width_of}
use Rattle.atam.specs.Placements.{tile_at}
use Rattle.assembly.specs.Cells.{cell_count, site_at}
use Rattle.assembly.specs.Grids.{TileGrid}
use Rattle.number_set.specs.Numbers.{Numbers, IsIn, count_below}
use Rattle.frontier_seat.specs.declared.work_list.Spot.{Spot}

-- the numbers of sites of a box
pub record ListedSites : Type 0 where
  pub area : BoxArea
  pub numbers : Numbers

-- the site has this number in the box
pub record IsSpot (area : BoxArea) (spot : Spot) : Type 0 where
  pub within : spot.number < cell_count area
  pub site : site_at area spot.number ≡ spot.site
  pub inside : InBox area spot.site

-- no tile is at a site that is listed
abbrev pub AreEmptySites : BoxArea → List Place → Numbers → Type 0
AreEmptySites area tiles numbers = (n : ℕ) → IsIn numbers n → tile_at tiles (site_at area n) ≡ None

-- A site is listed, if it is in the box and no tile is there; no other is new.
pub record ListsSide (area : BoxArea) (m : Site) (there : Option TypeId) (old new : Numbers) : Type 0 where
  pub kept : (n : ℕ) → IsIn old n → IsIn new n
  pub added : (n : ℕ) → n < cell_count area → site_at area n ≡ m → there ≡ None → IsIn new n
  pub only : (n : ℕ) → IsIn new n → IsIn old n ⊎ ((site_at area n ≡ m) × (there ≡ None))
  pub few : (k : ℕ) → count_below new k ≤ count_below old k + 1

-- the same of each site beside one
pub record ListsAround (area : BoxArea) (tiles : List Place) (m : Site) (old new : Numbers) : Type 0 where
  pub kept : (n : ℕ) → IsIn old n → IsIn new n
  pub added : (n : ℕ) (d : Side) → n < cell_count area → site_at area n ≡ neighbor m d → tile_at tiles (neighbor m d) ≡ None → IsIn new n
  pub only : (n : ℕ) → IsIn new n → IsIn old n ⊎ (tile_at tiles (site_at area n) ≡ None)
  pub few : (k : ℕ) → count_below new k ≤ count_below old k + 4

-- an empty site of the box beside a tile at one of the first sites is listed
abbrev pub ListsFrontierTo : BoxArea → List Place → Numbers → ℕ → Type 0
ListsFrontierTo area tiles numbers count = (k n : ℕ) (d : Side) (t : TypeId) → k < count → tile_at tiles (site_at area k) ≡ Some t →
    n < cell_count area → site_at area n ≡ neighbor (site_at area k) d → tile_at tiles (site_at area n) ≡ None → IsIn numbers n

-- at any site of the box
abbrev pub ListsFrontier : BoxArea → List Place → Numbers → Type 0
ListsFrontier area tiles numbers = ListsFrontierTo area tiles numbers (cell_count area)

-- each site of the box beside a tile of the row has a tile
abbrev pub IsClosedRow : TileGrid → ℕ → Type 0
IsClosedRow grid row = (column n : ℕ) (d : Side) (t : TypeId) → column < width_of grid.area → tile_at grid.tiles (site_in grid.area column row) ≡ Some t →
    n < cell_count grid.area → site_at grid.area n ≡ neighbor (site_in grid.area column row) d → tile_at grid.tiles (site_at grid.area n) ≢ None
