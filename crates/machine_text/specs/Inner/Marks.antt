-- The marks of names, and the first name of each mark.
use Rattle.std.specs.Prelude.{◌≡◌, ℕ, ◌+◌, ◌*◌, ◌%◌, ◌<◌, ◌==◌, Bool, List, length, fold, position, slice_get, Option, Some}

abbrev pub mix : ℕ → ℕ → ℕ
mix mark byte = (mark * 31 + byte) % 256

-- the mark of a name, of its bytes alone
unfoldable pub mark_of : List ℕ → ℕ
mark_of name = fold mix 0 name

abbrev pub has_mark : ℕ → List ℕ → Bool
has_mark mark name = mark_of name == mark

-- the number of the first name of each mark, if a name has it
pub record AreFirsts (names : List (List ℕ)) (firsts : List (Option ℕ)) : Type 0 where
  pub size : length firsts ≡ 256
  pub each : (mark : ℕ) → mark < 256 → slice_get firsts mark ≡ Some (position (has_mark mark) names)
