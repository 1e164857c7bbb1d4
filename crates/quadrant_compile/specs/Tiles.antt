-- The tiles of a quadrant: for each kind of tile the labels on its sides.
use Rattle.std.specs.Prelude.{ℕ, Option, Some, None, option_and_then}
use Rattle.atam.specs.declared.site.Side.{Side}
use Rattle.design.specs.Sides.{by_side, label_ahead}
use Rattle.quadrant_compile.specs.declared.rule.Answer.{Answer}
use Rattle.quadrant_compile.specs.declared.tile.Kind.{Kind}
use Rattle.quadrant_compile.specs.declared.tile.Kind.TheVariants.{Corner, Bottom, Left, Cell}
use Rattle.quadrant_compile.specs.declared.tile.Label.{Label}
use Rattle.quadrant_compile.specs.declared.tile.Label.TheVariants.{Eastward, Northward, Column, Row}
use Rattle.quadrant_compile.specs.Quadrants.{RuleQuadrant, answer_among, border_symbol}

-- the tile for a symbol from the west and one from the south, by what its rule gives
abbrev pub cell_side : ℕ → ℕ → Answer → Side → Option Label
cell_side a b x d = by_side (Some (Northward x.north)) (Some (Eastward x.east)) (Some (Northward b)) (Some (Eastward a)) d

abbrev pub label_on : RuleQuadrant → Kind → Side → Option Label
label_on q Corner d = by_side (Some (Row 1)) (Some (Column 1)) None None d
label_on q (Bottom i) d = by_side (Some (Northward (border_symbol q.bottom i)))
    (label_ahead Column q.width i) None (Some (Column i)) d
label_on q (Left j) d = by_side (label_ahead Row q.height j)
    (Some (Eastward (border_symbol q.left j))) (Some (Row j)) None d
label_on q (Cell a b) d = option_and_then (λ x. cell_side a b x d) (answer_among q.rules a b)
