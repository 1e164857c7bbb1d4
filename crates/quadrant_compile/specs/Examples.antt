-- Exclusive or over two columns and two rows, whose border symbols are all 1.
use Rattle.std.specs.Prelude.{◌≡◌, ℕ, List, [], ◌∷◌, ◌++◌, codes, Some, None}
use Rattle.quadrant_compile.specs.declared.rule.Rule.{Rule}
use Rattle.quadrant_compile.specs.declared.tile.Kind.TheVariants.{Corner, Bottom, Left, Cell}
use Rattle.quadrant_compile.specs.Quadrants.{RuleQuadrant}
use Rattle.quadrant_compile.specs.Recurrence.{kind_at}

-- the rule for two symbols that gives one symbol to the east and to the north
abbrev pub gives : ℕ → ℕ → ℕ → Rule
gives west south both = record { west = west; south = south; answer = record { east = both; north = both } }

abbrev pub three_rules : List Rule
three_rules = gives 0 0 0 ∷ gives 0 1 1 ∷ gives 1 0 1 ∷ []

abbrev pub quadrant_by : List Rule → RuleQuadrant
quadrant_by rules = record { symbols = codes "0" ∷ codes "1" ∷ []; rules = rules; width = 2; height = 2; bottom = 1 ∷ 1 ∷ []; left = 1 ∷ 1 ∷ [] }

-- by all four rules
abbrev pub exclusive_or : RuleQuadrant
exclusive_or = quadrant_by (three_rules ++ gives 1 1 0 ∷ [])

-- and without the rule for two ones
abbrev pub without_ones : RuleQuadrant
without_ones = quadrant_by three_rules

-- what belongs in the cells of the first
pub record ExclusiveOrIsShown : Type 0 where
  pub first : kind_at exclusive_or 1 1 ≡ Some (Cell 1 1)
  pub east : kind_at exclusive_or 2 1 ≡ Some (Cell 0 1)
  pub north : kind_at exclusive_or 1 2 ≡ Some (Cell 1 0)
  pub last : kind_at exclusive_or 2 2 ≡ Some (Cell 1 1)
  pub past : kind_at exclusive_or 3 1 ≡ None

-- the second has its borders, and no cell
pub record OnesStopAtOnce : Type 0 where
  pub corner : kind_at without_ones 0 0 ≡ Some Corner
  pub bottom : kind_at without_ones 2 0 ≡ Some (Bottom 2)
  pub left : kind_at without_ones 0 2 ≡ Some (Left 2)
  pub first : kind_at without_ones 1 1 ≡ None
  pub east : kind_at without_ones 2 1 ≡ None
  pub north : kind_at without_ones 1 2 ≡ None
  pub last : kind_at without_ones 2 2 ≡ None
