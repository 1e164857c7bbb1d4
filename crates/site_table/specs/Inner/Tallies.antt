-- How many tiles each number has placed, while they are counted.
use Rattle.std.specs.Prelude.{ℕ, ◌+◌, ◌==◌, cond, List, slice_index}

-- counts of the numbers below 64, and the run of the number that came last, which they lack
pub record TallyValue : Type 0 where
  pub counts : List ℕ
  pub last : ℕ
  pub run : ℕ

-- how often the number has come
abbrev pub tallied : TallyValue → ℕ → ℕ
tallied t n = slice_index t.counts n + cond (t.last == n) t.run 0
