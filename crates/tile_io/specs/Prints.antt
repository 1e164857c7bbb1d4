-- What a printing call does to its sink.
use Rattle.std.specs.Prelude.{ℕ, ◌≤◌, List, length, take, Option, Result, OnOk, OnErr}
use Rattle.std.specs.Io.KnownBytes.{Appends}
use Rattle.tile_io.specs.Faults.{HasCause}

-- some front of the text was appended
abbrev pub AppendsFront : Option (List ℕ) → Option (List ℕ) → List ℕ → Type 0
AppendsFront old new text = (n : ℕ) × (n ≤ length text) × Appends old new (take n text)

-- The whole text was appended to the sink, or a front of it where a write failed.
pub record Prints {S T E : Type 0} (written : S → Option (List ℕ)) (faults : S → ℕ) (old new : S) (result : Result T E) (text : List ℕ) : Type 0 where
  pub whole : OnOk result (Appends (written old) (written new) text)
  pub front : OnErr result (AppendsFront (written old) (written new) text)
  pub cause : HasCause faults old new result
