-- A worker's portion.
use Rattle.std.specs.Prelude.{◌≡◌, ℕ}
use Rattle.fan_out.specs.declared.portions.Portion.{Portion}

-- the portion of this worker, from the one number to the other
abbrev pub IsPortion : ℕ → ℕ → ℕ → Portion → Type 0
IsPortion worker start end p = p ≡ record { worker = worker; start = start; end = end }
