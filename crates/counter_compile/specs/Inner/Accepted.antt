-- The limits of a counter, one by one.
use Rattle.std.specs.Prelude.{ℕ, ◌<◌, ◌≤◌, ◌^◌}
use Rattle.counter_compile.specs.Counters.{row_count}

pub record IsAccepted (bits v : ℕ) : Type 0 where
  pub least : 2 ≤ bits
  pub most : bits ≤ 32
  pub start : v < 2 ^ bits
  pub rows : row_count bits v ≤ 1024
