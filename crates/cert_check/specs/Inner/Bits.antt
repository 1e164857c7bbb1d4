-- Sides as the bits of a number.
use Rattle.std.specs.Prelude.{ℕ, ◌+◌, Bool, if◌then◌else◌}

unfoldable pub bit : Bool → ℕ → ℕ
bit b n = if b then n else 0

-- the bits of the sides that are there
unfoldable pub bits : Bool → Bool → Bool → Bool → ℕ
bits n e s w = bit n 1 + bit e 2 + bit s 4 + bit w 8
