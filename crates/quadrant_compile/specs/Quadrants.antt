-- A rule from two symbols to two, over columns and rows.
use Rattle.std.specs.Prelude.{◌≡◌, ℕ, ◌-◌, ◌==◌, ◌&&◌, ◌<◌, ◌≤◌, Bool, is_some, false, List, length, filter, find, Option, All, AllPairs, option_map}
use Rattle.std.specs.List.{range_with_len, flat_map, slice_index_or}
use Rattle.std.specs.Prelude.{map}
use Rattle.machine_text.specs.Machines.{IsIn, IsAlphabet}
use Rattle.quadrant_compile.specs.declared.rule.Answer.{Answer}
use Rattle.quadrant_compile.specs.declared.rule.Rule.{Rule}

-- Rules over the cells in the columns from 1 to the width and the rows from 1 to the height. Symbols are numbered in the order of their names.
-- The bottom has the symbols that come from below into the columns from 1 on, the left those that come from the west into the rows from 1 on.
pub record RuleQuadrant : Type 0 where
  pub symbols : List (List ℕ)
  pub rules : List Rule
  pub width : ℕ
  pub height : ℕ
  pub bottom : List ℕ
  pub left : List ℕ

-- whether a rule is for these symbols from the west and from the south
abbrev pub is_for : ℕ → ℕ → Rule → Bool
is_for west south rule = rule.west == west && rule.south == south

-- what the rule for two symbols among these gives, if there is one
abbrev pub answer_among : List Rule → ℕ → ℕ → Option Answer
answer_among rules west south = option_map (λ rule. rule.answer) (find (is_for west south) rules)

-- the symbol of a border at column or row i; those that are not given are the first symbol
abbrev pub border_symbol : List ℕ → ℕ → ℕ
border_symbol given i = slice_index_or given (i - 1) 0

-- the pairs of numbers below n, by the first and then by the second
abbrev pub pairs_below : ℕ → List (ℕ × ℕ)
pairs_below n = flat_map (λ a. map (λ b. (a, b)) (range_with_len 0 n)) (range_with_len 0 n)

abbrev pub has_rule : RuleQuadrant → ℕ × ℕ → Bool
has_rule q pair = is_some (answer_among q.rules pair.0 pair.1)

-- those that have a rule, as west and south
abbrev pub ruled_pairs : RuleQuadrant → List (ℕ × ℕ)
ruled_pairs q = filter (has_rule q) (pairs_below (length q.symbols))

-- the symbols of a rule are among so many
pub record IsRuleOver (symbols : ℕ) (rule : Rule) : Type 0 where
  pub inputs : (rule.west < symbols) × (rule.south < symbols)
  pub answer : (rule.answer.east < symbols) × (rule.answer.north < symbols)

-- numbers are in range, and no two rules are for the same symbols
pub record IsQuadrant (q : RuleQuadrant) : Type 0 where
  pub symbols : IsAlphabet q.symbols
  pub rules : All (IsRuleOver (length q.symbols)) q.rules
  pub distinct_rules : AllPairs (λ t u. is_for t.west t.south u ≡ false) q.rules
  pub columns : IsIn 1 1023 q.width
  pub rows : IsIn 1 1023 q.height
  pub bottom : (length q.bottom ≤ q.width) × All (λ a. a < length q.symbols) q.bottom
  pub left : (length q.left ≤ q.height) × All (λ a. a < length q.symbols) q.left
