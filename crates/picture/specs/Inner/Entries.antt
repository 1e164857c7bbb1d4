-- The entry of a type in a legend, and the types that are found site by site.
use Rattle.std.specs.Prelude.{ℕ, ◌==◌, Bool, false, List, [], Option, if◌then◌else◌}
use Rattle.std.specs.List.{list_any, range_with_len}
use Rattle.std.specs.Option.{option_map_or}
use Rattle.atam.specs.declared.place.TypeId.{TypeId}
use Rattle.atam.specs.Placements.{tile_at}
use Rattle.atam.specs.TileSystem.{TileSystem}
use Rattle.assembly.specs.Cells.{site_at}
use Rattle.assembly.specs.Grids.{TileGrid}
use Rattle.picture.specs.Pictures.{legend_line}

-- its line, or nothing where it does not stand
abbrev pub entry : TileSystem → Bool → TypeId → List ℕ
entry sys stands t = if stands then legend_line sys t else []

-- whether a tile, if there is one, is of the type with this index
abbrev pub is_of : Option TypeId → ℕ → Bool
is_of tile t = option_map_or (λ u. u.0 == t) tile false

-- whether one of the first sites has a tile of the type
abbrev pub is_seen : TileGrid → ℕ → ℕ → Bool
is_seen grid count t = list_any (λ i. is_of (tile_at grid.tiles (site_at grid.area i)) t) (range_with_len 0 count)
