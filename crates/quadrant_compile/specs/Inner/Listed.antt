-- The lists of kinds and labels, what their tables have of one, and the box of the system.
use Rattle.std.specs.Prelude.{ℕ, List}
use Rattle.atam.specs.declared.area.BoxArea.{BoxArea}
use Rattle.quadrant_compile.specs.declared.tile.Kind.{Kind}
use Rattle.quadrant_compile.specs.declared.tile.Label.{Label}
use Rattle.quadrant_compile.specs.Quadrants.{RuleQuadrant}
use Rattle.quadrant_compile.specs.QuadrantSystems.{tiles_of, quadrant_system}

abbrev pub kinds : RuleQuadrant → List Kind
kinds q = (tiles_of q).kinds

abbrev pub labels : RuleQuadrant → List Label
labels q = (tiles_of q).labels

abbrev pub area_of : RuleQuadrant → BoxArea
area_of q = (quadrant_system q).area

-- the places in the lists of kinds and of labels
abbrev pub kind_number : RuleQuadrant → Kind → ℕ
kind_number q k = ((tiles_of q).kind_row k).0

abbrev pub label_number : RuleQuadrant → Label → ℕ
label_number q g = ((tiles_of q).label_row g).0

-- and the names
abbrev pub kind_name : RuleQuadrant → Kind → List ℕ
kind_name q k = ((tiles_of q).kind_row k).1

abbrev pub label_name : RuleQuadrant → Label → List ℕ
label_name q g = ((tiles_of q).label_row g).2

-- how strong a label is
abbrev pub strength : RuleQuadrant → Label → ℕ
strength q g = ((tiles_of q).label_row g).1
