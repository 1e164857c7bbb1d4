-- What it is to read a source to its end.
use Rattle.std.specs.Prelude.{◌≡◌, ◌≤◌, ◌+◌, ℕ, List, length, Option, Result, IfOk, OnOk, IsErrOf}
use Rattle.std.specs.Io.KnownBytes.{Consumes, IsAtEnd}
use Rattle.tile_io.specs.declared.limits.TheConstants.{MOST_INPUT}
use Rattle.tile_io.specs.declared.whole.ReadStop.{ReadStop}
use Rattle.tile_io.specs.declared.whole.ReadStop.TheVariants.{Failed, TooLong, NoMemory}
use Rattle.tile_io.specs.Faults.{Rose}

abbrev pub ConsumesExactly : {S : Type 0} → (S → Option (List ℕ)) → S → S → ℕ → Type 0
ConsumesExactly left old new n = (taken : List ℕ) × Consumes (left old) (left new) taken × (length taken ≡ n)

abbrev pub ConsumesAtMost : {S : Type 0} → (S → Option (List ℕ)) → S → S → ℕ → Type 0
ConsumesAtMost left old new n = (taken : List ℕ) × Consumes (left old) (left new) taken × (length taken ≤ n)

-- All that was left was read, and the source is at its end. Or one byte too many was taken, and none behind it; or a read failed; or there was no memory.
pub record ReadsWhole {S Bytes : Type 0} (left : S → Option (List ℕ)) (faults : S → ℕ) (bytes_of : Bytes → List ℕ) (old new : S) (result : Result Bytes ReadStop) : Type 0 where
  pub bytes : IfOk result (λ all. Consumes (left old) (left new) (bytes_of all))
  pub end : OnOk result (IsAtEnd (left new))
  pub short : IfOk result (λ all. length (bytes_of all) ≤ MOST_INPUT)
  pub too_long : IsErrOf result TooLong → ConsumesExactly left old new (MOST_INPUT + 1)
  pub no_memory : IsErrOf result NoMemory → ConsumesAtMost left old new MOST_INPUT
  pub failed : IsErrOf result Failed → ConsumesAtMost left old new MOST_INPUT
  pub rose : IsErrOf result Failed → Rose (faults old) (faults new)
  pub later : faults old ≤ faults new
