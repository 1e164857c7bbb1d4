-- A table of the rules' answers, by the symbol from the west and then by the one from the south.
use Rattle.std.specs.Prelude.{◌≡◌, ℕ, ◌+◌, ◌*◌, ◌<◌, List, length, slice_get, Option, Some}
use Rattle.quadrant_compile.specs.declared.limits.TheConstants.{MOST_SYMBOLS}
use Rattle.quadrant_compile.specs.declared.rule.Answer.{Answer}
use Rattle.quadrant_compile.specs.declared.rule.Rule.{Rule}
use Rattle.quadrant_compile.specs.Quadrants.{answer_among}

-- the place of two symbols in the table
abbrev pub entry : ℕ → ℕ → ℕ
entry west south = west * MOST_SYMBOLS + south

-- the table has the answer for any two symbols, if there is one among the rules
pub record IsTableOf (rules : List Rule) (table : List (Option Answer)) : Type 0 where
  pub size : length table ≡ MOST_SYMBOLS * MOST_SYMBOLS
  pub entries : (west south : ℕ) → west < MOST_SYMBOLS → south < MOST_SYMBOLS → slice_get table (entry west south) ≡ Some (answer_among rules west south)
