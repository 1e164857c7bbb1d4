-- The lines of a growth.
use Rattle.std.specs.Prelude.{ℕ, List, [], ◌∷◌, codes, flat_map, Option, Some, None}
use Rattle.std.specs.Fmt.{signed_decimal}
use Rattle.tile_io.specs.Lines.{line_of}
use Rattle.atam.specs.declared.site.Site.{Site}
use Rattle.atam.specs.declared.place.TypeId.{TypeId}
use Rattle.atam.specs.declared.place.Place.{Place}
use Rattle.atam.specs.TileSystem.{TileSystem, type_name}

-- a tile: its column, its row and the name of its type
abbrev pub place_line : TileSystem → Place → List ℕ
place_line sys p = line_of (codes "place" ∷ signed_decimal p.site.x ∷ signed_decimal p.site.y ∷ type_name sys p.tile ∷ [])

-- the lines of a sequence, in its order
abbrev pub place_lines : TileSystem → List Place → List ℕ
place_lines sys s = flat_map (place_line sys) s

-- what is open outside the box: nothing, or a site and a type that attaches there
abbrev pub closed_line : TileSystem → Option (Site × TypeId) → List ℕ
closed_line sys None = line_of (codes "closed" ∷ codes "terminal" ∷ [])
closed_line sys (Some found) =
    line_of (codes "closed" ∷ codes "clipped" ∷ signed_decimal found.0.x ∷ signed_decimal found.0.y ∷ type_name sys found.1 ∷ [])
