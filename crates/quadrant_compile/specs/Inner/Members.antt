-- The kinds and the labels that a quadrant has.
use Rattle.std.specs.Prelude.{◌≡◌, ◌<◌, ◌≤◌, true, is_some, length}
use Rattle.quadrant_compile.specs.declared.tile.Kind.{Kind}
use Rattle.quadrant_compile.specs.declared.tile.Kind.TheVariants.{Corner, Bottom, Left, Cell}
use Rattle.quadrant_compile.specs.declared.tile.Label.{Label}
use Rattle.quadrant_compile.specs.declared.tile.Label.TheVariants.{Eastward, Northward, Column, Row}
use Rattle.quadrant_compile.specs.Quadrants.{RuleQuadrant, answer_among}

abbrev pub IsKind : RuleQuadrant → Kind → Type 0
IsKind q Corner = Unit {0}
IsKind q (Bottom i) = (1 ≤ i) × (i ≤ q.width)
IsKind q (Left j) = (1 ≤ j) × (j ≤ q.height)
IsKind q (Cell a b) = is_some (answer_among q.rules a b) ≡ true

abbrev pub IsLabel : RuleQuadrant → Label → Type 0
IsLabel q (Eastward a) = a < length q.symbols
IsLabel q (Northward a) = a < length q.symbols
IsLabel q (Column i) = (1 ≤ i) × (i ≤ q.width)
IsLabel q (Row j) = (1 ≤ j) × (j ≤ q.height)
