-- A coordinate in its plain form.
use Rattle.std.specs.Prelude.{◌≡◌, ◌≤◌, ℕ, ℤ, List, length, ◌∷◌, ◌++◌, Ok}
use Rattle.tile_io.specs.Checks.{coordinate, without_minus}

-- a word of up to six digits, maybe behind a minus, that reads as this coordinate, and a space, and then the rest
pub record StartsWithCoordinate (bytes : List ℕ) (z : ℤ) (rest : List ℕ) : Type 0 where
  pub word : List ℕ
  pub cut : bytes ≡ word ++ 32 ∷ rest
  pub few : length (without_minus word) ≤ 6
  pub reads : coordinate word ≡ Ok z
