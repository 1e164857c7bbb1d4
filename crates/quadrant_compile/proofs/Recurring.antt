-- The recurrence of a quadrant has one solution.
use Rattle.std.proofs.Common.{◌≡◌, ℕ, zero, suc, Option, option_map, refl, ◌∙◌, ap}
use Rattle.quadrant_compile.specs.declared.rule.Answer.{Answer}
use Rattle.quadrant_compile.specs.Quadrants.{RuleQuadrant}
use Rattle.quadrant_compile.specs.Recurrence.{IsRecurrence, answer, east, north}

pub met : (q : RuleQuadrant) → IsRecurrence q (east q) (north q)
met q = record {
  left = λ j. refl;
  bottom = λ i. refl;
  eastward = λ i j. refl;
  northward = λ i j. refl;
}

module _ (q : RuleQuadrant) (e n : ℕ → ℕ → Option ℕ) (is : IsRecurrence q e n) where
  -- what is given for the same symbols is the same
  same_answer : (i j : ℕ) → e i (suc j) ≡ east q i (suc j) → n (suc i) j ≡ north q (suc i) j → answer q (e i (suc j)) (n (suc i) j) ≡ answer q (east q i (suc j)) (north q (suc i) j)
  same_answer i j east_same north_same = λ z. answer q (east_same z) (north_same z)

  -- in a row over one where what goes north is the same
  east_same : (j : ℕ) → ((i : ℕ) → n (suc i) j ≡ north q (suc i) j) → (i : ℕ) → e i (suc j) ≡ east q i (suc j)
  east_same j below zero = is.left j
  east_same j below (suc i) = is.eastward i j ∙ ap (option_map (λ (x : Answer). x.east)) (same_answer i j (east_same j below i) (below i))

  pub north_once : (j i : ℕ) → n (suc i) j ≡ north q (suc i) j
  north_once zero i = is.bottom i
  north_once (suc j) i = is.northward i j ∙ ap (option_map (λ (x : Answer). x.north)) (same_answer i j (east_same j (north_once j) i) (north_once j i))

  pub east_once : (i j : ℕ) → e i (suc j) ≡ east q i (suc j)
  east_once i j = east_same j (north_once j) i
