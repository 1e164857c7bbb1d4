-- What a check of names answers, and what a line with its checks.
use Rattle.std.specs.Prelude.{◌≡◌, ℕ, Vec, List, Result, Ok, Err}
use Rattle.std.specs.Global.{Global}
use Rattle.tile_io.specs.declared.fault.Cause.{Cause}
use Rattle.tile_io.specs.declared.line_reader.LineStop.{LineStop}
use Rattle.tile_io.specs.declared.line_reader.LineStop.TheVariants as stops

-- numbers by this check, or its fault, or want of memory
abbrev pub Refers : Result (List ℕ) Cause → Result (Vec ℕ Global) LineStop → Type 0
Refers check (Ok numbers) = check ≡ Ok numbers.items
Refers check (Err (stops.Fault cause)) = check ≡ Err cause
Refers check (Err stops.NoMemory) = Unit {0}

-- What is described has a line of this keyword more, by this check; or there is its fault, or want of
-- memory, and all is as it was.
abbrev pub Gets : {M : Type 0} → List ℕ → Result (List ℕ × M) Cause → M → M
    → Result (Unit {0}) LineStop → Type 0
Gets word check old new (Ok done) = check ≡ Ok (word, new)
Gets word check old new (Err (stops.Fault cause)) = (check ≡ Err cause) × (new ≡ old)
Gets word check old new (Err stops.NoMemory) = new ≡ old
