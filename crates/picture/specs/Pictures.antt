-- The picture of a grid.
use Rattle.std.specs.Prelude.{ℕ, ◌==◌, Bool, List, [], ◌∷◌, ◌++◌, map, filter, flat_map, get_or, reverse, codes, decimal}
use Rattle.std.specs.List.{list_any, range_with_len}
use Rattle.std.specs.Option.{option_map_or}
use Rattle.atam.specs.declared.site.Site.{Site}
use Rattle.atam.specs.declared.area.BoxArea.{BoxArea}
use Rattle.atam.specs.declared.place.TypeId.{TypeId}
use Rattle.atam.specs.declared.place.Place.{Place}
use Rattle.atam.specs.Sites.{width_of, height_of, site_in}
use Rattle.atam.specs.Placements.{tile_at}
use Rattle.atam.specs.TileSystem.{TileSystem, type_name}
use Rattle.assembly.specs.Grids.{TileGrid}
use Rattle.tile_io.specs.Lines.{line_of}

-- the characters of types
unfoldable pub characters : List ℕ
characters = codes "ABCDEFGHIJKLMNOPQRSTUVWXYZabcdefghijklmnopqrstuvwxyz0123456789"

-- that of its index for each type of index 0 to 61, `#` for all others
abbrev pub type_character : TypeId → ℕ
type_character t = get_or characters t.0 35

-- that of the tile's type, `.` where the site is empty
abbrev pub site_character : List Place → Site → ℕ
site_character tiles m = option_map_or type_character (tile_at tiles m) 46

-- whether a tile is of the type with this index
abbrev pub is_standing : List Place → ℕ → Bool
is_standing tiles t = list_any (λ p. p.tile.0 == t) tiles

abbrev pub head_line : BoxArea → List ℕ
head_line area = line_of (codes "picture" ∷ decimal (width_of area) ∷ decimal (height_of area) ∷ [])

-- the character of a type and its name
abbrev pub legend_line : TileSystem → TypeId → List ℕ
legend_line sys t = line_of ((type_character t ∷ []) ∷ type_name sys t ∷ [])

-- a line for each of the types with a character of their own that stand, by index
abbrev pub legend : TileSystem → List Place → List ℕ
legend sys tiles = flat_map (λ t. legend_line sys (record { 0 = t })) (filter (is_standing tiles) (range_with_len 0 62))

-- the sites of a row from the west
abbrev pub row_line : TileGrid → ℕ → List ℕ
row_line grid row =
    map (λ column. site_character grid.tiles (site_in grid.area column row))
    (range_with_len 0 (width_of grid.area)) ++ 10 ∷ []

-- the highest row first
abbrev pub picture_text : TileSystem → TileGrid → List ℕ
picture_text sys grid = head_line grid.area ++ (legend sys grid.tiles
    ++ flat_map (row_line grid) (reverse (range_with_len 0 (height_of grid.area))))
