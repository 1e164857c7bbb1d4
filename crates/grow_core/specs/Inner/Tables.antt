-- The tiles by their sites.
use Rattle.std.specs.Prelude.{◌≡◌, ℕ, ◌<◌, ◌≤◌, List, Some, All, length, slice_index}
use Rattle.atam.specs.declared.site.Site.{Site}
use Rattle.atam.specs.declared.area.BoxArea.{BoxArea}
use Rattle.atam.specs.Sites.{InBox, IsBox}
use Rattle.atam.specs.Placements.{HasDistinctSites, tile_at}
use Rattle.assembly.specs.Cells.{cell_count, site_at}
use Rattle.assembly.specs.Grids.{TileGrid}
use Rattle.grow_core.specs.declared.placed_tile.PlacedTile.{PlacedTile}
use Rattle.grow_core.specs.Core.{places}
use Rattle.grow_core.specs.Machine.{placer_at}

-- tiles in a box, in the order in which they were placed
pub record BoxedTiles : Type 0 where
  pub area : BoxArea
  pub tiles : List PlacedTile

-- The tiles by their sites: a grid of their places, and a number for each site of the box. There is room for as many tiles as the box has sites.
pub record IsTable (tiles : List PlacedTile) (grid : TileGrid) (placers : List ℕ) (room : ℕ) : Type 0 where
  pub box_limits : IsBox grid.area
  pub inside : All (λ p. InBox grid.area p.site) (places tiles)
  pub distinct : HasDistinctSites (places tiles)
  pub same : (m : Site) → tile_at (places tiles) m ≡ tile_at grid.tiles m
  pub cells : length placers ≡ cell_count grid.area
  pub numbers : (k n : ℕ) → k < cell_count grid.area → placer_at tiles (site_at grid.area k) ≡ Some n → slice_index placers k ≡ n
  pub enough : cell_count grid.area ≤ room
