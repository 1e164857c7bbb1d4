-- The system of a quadrant: its tiles in their order, with their names.
use Rattle.std.specs.Prelude.{ℕ, suc, ◌+◌, ◌-◌, ◌*◌, pos, List, [], ◌∷◌, ◌++◌, length, map, filter, take, codes, decimal}
use Rattle.std.specs.List.{range_with_len, slice_index_or}
use Rattle.atam.specs.TileSystem.{TileSystem}
use Rattle.design.specs.TileSets.{TileSet, system_of}
use Rattle.quadrant_compile.specs.declared.tile.Kind.{Kind}
use Rattle.quadrant_compile.specs.declared.tile.Kind.TheVariants.{Corner, Bottom, Left, Cell}
use Rattle.quadrant_compile.specs.declared.tile.Label.{Label}
use Rattle.quadrant_compile.specs.declared.tile.Label.TheVariants.{Eastward, Northward, Column, Row}
use Rattle.quadrant_compile.specs.Quadrants.{RuleQuadrant, pairs_below, has_rule, ruled_pairs}
use Rattle.quadrant_compile.specs.Tiles.{label_on}

-- the table of kinds: the place of each in the list of kinds, and its name
abbrev pub kind_row : RuleQuadrant → Kind → ℕ × List ℕ
kind_row q Corner = (0, codes "o")
kind_row q (Bottom i) = (i, codes "b:" ++ decimal i)
kind_row q (Left j) = (q.width + j, codes "a:" ++ decimal j)
kind_row q (Cell a b) =
    let before = take (a * length q.symbols + b) (pairs_below (length q.symbols)) in (
      suc q.width + q.height + length (filter (has_rule q) before),
      codes "q:" ++ slice_index_or q.symbols a [] ++ codes ":" ++ slice_index_or q.symbols b [],
    )

-- and of labels: the place, the strength, which is 2 where it holds a tile alone, and the name
abbrev pub label_row : RuleQuadrant → Label → ℕ × ℕ × List ℕ
label_row q (Eastward a) = (a, 1, codes "h:" ++ slice_index_or q.symbols a [])
label_row q (Northward a) = (length q.symbols + a, 1, codes "v:" ++ slice_index_or q.symbols a [])
label_row q (Column i) = (2 * length q.symbols + i - 1, 2, codes "b:" ++ decimal i)
label_row q (Row j) = (2 * length q.symbols + q.width + j - 1, 2, codes "a:" ++ decimal j)

-- in the order of the types and of the glues
abbrev pub tiles_of : RuleQuadrant → TileSet Kind Label
tiles_of q = record {
  kinds = Corner ∷ (map Bottom (range_with_len 1 q.width)
      ++ (map Left (range_with_len 1 q.height) ++ map (λ p. Cell p.0 p.1) (ruled_pairs q)));
  labels = map Eastward (range_with_len 0 (length q.symbols))
      ++ (map Northward (range_with_len 0 (length q.symbols))
      ++ (map Column (range_with_len 1 q.width) ++ map Row (range_with_len 1 q.height)));
  side = label_on q;
  kind_row = kind_row q;
  label_row = label_row q;
}

-- the system of the quadrant in the box of borders and cells, the corner of its borders as its seed
abbrev pub quadrant_system : RuleQuadrant → TileSystem
quadrant_system q = system_of (tiles_of q) Corner
    (record { x0 = pos 0; y0 = pos 0; x1 = pos q.width; y1 = pos q.height })
