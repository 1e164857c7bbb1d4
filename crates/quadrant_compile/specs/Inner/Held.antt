-- What a quadrant holds.
use Rattle.std.specs.Prelude.{◌≡◌, ℕ, List}
use Rattle.quadrant_compile.specs.Quadrants.{RuleQuadrant, IsQuadrant, ruled_pairs}

-- a quadrant, and its pairs that have a rule
pub record IsHeld (q : RuleQuadrant) (kept : List (ℕ × ℕ)) : Type 0 where
  pub quadrant : IsQuadrant q
  pub ruled : kept ≡ ruled_pairs q
