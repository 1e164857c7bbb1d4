-- A box with the tiles in it, and the cells that stand for them.
use Rattle.std.specs.Prelude.{◌≡◌, ◌≢◌, ◌<◌, ℕ, suc, ◌-◌, ◌==◌, List, [], ◌∷◌, ◌++◌, None, if◌then◌else◌}
use Rattle.atam.specs.declared.site.Site.{Site}
use Rattle.atam.specs.declared.place.Place.{Place}
use Rattle.atam.specs.declared.area.BoxArea.{BoxArea}
use Rattle.atam.specs.Sites.{width_of, site_in}
use Rattle.atam.specs.Placements.{tile_at}

-- the tiles in the order of their sites
pub record TileGrid : Type 0 where
  pub area : BoxArea
  pub tiles : List Place

-- no tile is in the row
abbrev pub IsEmptyRow : TileGrid → ℕ → Type 0
IsEmptyRow grid row = (column : ℕ) → column < width_of grid.area → tile_at grid.tiles (site_in grid.area column row) ≡ None

-- a tile is at each site of the row
abbrev pub IsFullRow : TileGrid → ℕ → Type 0
IsFullRow grid row = (column : ℕ) → column < width_of grid.area → tile_at grid.tiles (site_in grid.area column row) ≢ None

-- the place of one cell, if it is of a tile
abbrev pub place_of : Site → ℕ → List Place
place_of m cell = if cell == 0 then [] else record { site = m; tile = record { 0 = cell - 1 } } ∷ []

-- the places of cells, the first of which is that of the site with number i
abbrev pub places_of : (ℕ → Site) → ℕ → List ℕ → List Place
places_of at i [] = []
places_of at i (cell ∷ cells) = place_of (at i) cell ++ places_of at (suc i) cells
