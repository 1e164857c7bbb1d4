-- The recurrence of a rule, and the tile that belongs in each column of each row.
use Rattle.std.specs.Prelude.{◌≡◌, ℕ, zero, suc, nat_lt, if◌then◌else◌, Option, Some, None, option_map, option_and_then}
use Rattle.quadrant_compile.specs.declared.rule.Answer.{Answer}
use Rattle.quadrant_compile.specs.declared.tile.Kind.{Kind}
use Rattle.quadrant_compile.specs.declared.tile.Kind.TheVariants.{Corner, Bottom, Left, Cell}
use Rattle.quadrant_compile.specs.Quadrants.{RuleQuadrant, answer_among, border_symbol}

-- the rule's answer for two symbols, where both are there and have a rule
abbrev pub answer : RuleQuadrant → Option ℕ → Option ℕ → Option Answer
answer q west south = option_and_then (λ a. option_and_then (λ b. answer_among q.rules a b) south) west

-- The recurrence, of what goes east and what goes north out of column i in row j: the borders give their symbols, and each cell what the rule
-- answers for what comes out of the cell to the west and out of the cell below.
pub record IsRecurrence (q : RuleQuadrant) (east north : ℕ → ℕ → Option ℕ) : Type 0 where
  pub left : (j : ℕ) → east 0 (suc j) ≡ Some (border_symbol q.left (suc j))
  pub bottom : (i : ℕ) → north (suc i) 0 ≡ Some (border_symbol q.bottom (suc i))
  pub eastward : (i j : ℕ) → east (suc i) (suc j) ≡ option_map (λ x. x.east) (answer q (east i (suc j)) (north (suc i) j))
  pub northward : (i j : ℕ) → north (suc i) (suc j) ≡ option_map (λ x. x.north) (answer q (east i (suc j)) (north (suc i) j))

-- The two that it makes, row by row: what goes east in a row over these symbols from below, from the left border on,
abbrev pub east_along : RuleQuadrant → ℕ → (ℕ → Option ℕ) → ℕ → Option ℕ
east_along q left below zero = Some left
east_along q left below (suc i) = option_map (λ x. x.east) (answer q (east_along q left below i) (below (suc i)))

-- what goes north out of the columns of a row,
abbrev pub north_of_row : RuleQuadrant → ℕ → ℕ → Option ℕ
north_of_row q zero i = Some (border_symbol q.bottom i)
north_of_row q (suc j) zero = None
north_of_row q (suc j) (suc i) = option_map (λ x. x.north) (answer q (east_along q (border_symbol q.left (suc j)) (north_of_row q j) i) (north_of_row q j (suc i)))

-- and both by column and row.
abbrev pub north : RuleQuadrant → ℕ → ℕ → Option ℕ
north q i j = north_of_row q j i

abbrev pub east : RuleQuadrant → ℕ → ℕ → Option ℕ
east q i zero = None
east q i (suc j) = east_along q (border_symbol q.left (suc j)) (north_of_row q j) i

-- the tile for two symbols, where they are there and have a rule
abbrev pub cell_for : RuleQuadrant → Option ℕ → Option ℕ → Option Kind
cell_for q west south = option_and_then (λ a. option_and_then (λ b. option_map (λ x. Cell a b) (answer_among q.rules a b)) south) west

-- What belongs in column i of row j: the borders in column 0 and in row 0, and each cell the tile for what comes out of the cell to the west
-- and out of the cell below.
abbrev pub kind_at : RuleQuadrant → ℕ → ℕ → Option Kind
kind_at q zero zero = Some Corner
kind_at q (suc i) zero = if nat_lt i q.width then Some (Bottom (suc i)) else None
kind_at q zero (suc j) = if nat_lt j q.height then Some (Left (suc j)) else None
kind_at q (suc i) (suc j) = if nat_lt j q.height then (if nat_lt i q.width then cell_for q (east q i (suc j)) (north q (suc i) j) else None) else None
