-- What the reader of a growth text holds of the lines that it took.
use Rattle.std.specs.Prelude.{◌≡◌, List, Bool, true, option_map, filter_map, is_none, Option, Some, None, IfSome}
use Rattle.tile_io.specs.Checks.{last_of}
use Rattle.atam.specs.declared.site.Site.{Site}
use Rattle.atam.specs.declared.place.Place.{Place}
use Rattle.atam.specs.Placements.{tile_at, SamePlacements}
use Rattle.atam.specs.TileSystem.{TileSystem}
use Rattle.assembly.specs.Grids.{TileGrid}
use Rattle.seq_text.specs.declared.kind.LineKind.{LineKind}
use Rattle.seq_text.specs.GrowthText.{GrowthItem}
use Rattle.seq_text.specs.Inner.Kinds.{kind_word}

-- a scratch grid of the system's box has the places
pub record IsScratchOf (sys : TileSystem) (places : List Place) (grid : TileGrid) : Type 0 where
  pub area : grid.area ≡ sys.area
  pub tiles : (m : Site) → tile_at grid.tiles m ≡ tile_at places m
  pub same : SamePlacements places grid.tiles

-- the grid, where there is one, has the system's box
abbrev pub IsOverBox : TileSystem → Option TileGrid → Type 0
IsOverBox sys grid = IfSome grid (λ g. g.area ≡ sys.area)

-- the places are in the grid, where there is one, and else they are the sequence
abbrev pub HoldsPlaces : TileSystem → List Place → Option TileGrid → List Place → Type 0
HoldsPlaces sys sequence None places = sequence ≡ places
HoldsPlaces sys sequence (Some grid) places = IsScratchOf sys places grid

-- whether a tile may be placed at a site: where there is a grid, only where it has none
abbrev pub is_free_in : Option TileGrid → Site → Bool
is_free_in None m = true
is_free_in (Some grid) m = is_none (tile_at grid.tiles m)

-- the places of the lines, and the keyword of the last line
pub record HoldsLines (sys : TileSystem) (sequence : List Place) (grid : Option TileGrid) (last : Option LineKind) (items : List GrowthItem) : Type 0 where
  pub box_area : IsOverBox sys grid
  pub places : HoldsPlaces sys sequence grid (filter_map (λ item. item.1) items)
  pub kind : option_map kind_word last ≡ option_map (λ item. item.0) (last_of items)
