-- Digits at the front of bytes.
use Rattle.std.specs.Prelude.{◌≡◌, ℕ, ◌≤◌, true, List, length, ◌∷◌, ◌++◌}
use Rattle.tile_io.specs.Checks.{are_digits, digits_value}

-- up to so many digits that write this number, and this byte, and then the rest
pub record StartsWithDigits (end most : ℕ) (bytes : List ℕ) (number : ℕ) (rest : List ℕ) : Type 0 where
  pub word : List ℕ
  pub cut : bytes ≡ word ++ end ∷ rest
  pub digits : are_digits word ≡ true
  pub few : length word ≤ most
  pub value : digits_value word ≡ number

-- no such digits
abbrev pub HasNoDigits : ℕ → ℕ → List ℕ → Type 0
HasNoDigits end most bytes = (word rest : List ℕ) → bytes ≡ word ++ end ∷ rest → are_digits word ≡ true → length word ≤ most → ⊥
