-- What workers do of the numbers below an end, each of a portion of its own.
use Rattle.std.specs.Prelude.{◌≡◌, ℕ, suc, ◌≤◌, List, [], ◌∷◌}
use denote.Param.Members.{Shared}
use Rattle.std.specs.Fn.{FnReturns}
use Rattle.fan_out.specs.declared.portions.Portion.{Portion}

-- Something for each worker from one on, one portion after the other: R of a worker, of the number that its portion begins with, of the one at
-- which it ends, and of what is there for it. The first portion begins with the one number, each other one where the one before it ends, and
-- the last ends at the other number.
abbrev pub InARow : {D : Type 0} → (ℕ → ℕ → ℕ → D → Type 0) → ℕ → ℕ → ℕ → List D → Type 0
InARow R worker start end [] = start ≡ end
InARow R worker start end (d ∷ ds) = (middle : ℕ) × (start ≤ middle) × R worker start middle d × InARow R (suc worker) middle end ds

module _ {F D : Type 0} (g : Shared F (Portion × Unit {0}) D) (f : F) where
  -- f may be called with each portion of the numbers below the end
  abbrev pub AcceptsPortions : ℕ → Type 0
  AcceptsPortions end = (p : Portion) → p.start ≤ p.end → p.end ≤ end → g.pre f (p, tt)

  -- d is a result that a call of f with this worker's portion may give
  abbrev pub GivesPortion : ℕ → ℕ → ℕ → D → Type 0
  GivesPortion worker start end d = FnReturns g f (record { worker = worker; start = start; end = end }, tt) d
