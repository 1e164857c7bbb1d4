-- Where a word of a line stands.
use Rattle.std.specs.Prelude.{◌≡◌, ℕ, List, ◌++◌, replicate}

-- only spaces stand in front of the word, and what is left then stands behind it
abbrev pub StandsNext : List ℕ → List ℕ → List ℕ → Type 0
StandsNext left word left_then = (spaces : ℕ) × (left ≡ replicate spaces 32 ++ word ++ left_then)
