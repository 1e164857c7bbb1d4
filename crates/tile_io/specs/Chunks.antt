-- What a sink and the bytes that are held back in front of it do with a piece.
use Rattle.std.specs.Prelude.{◌≡◌, ℕ, List, [], ◌++◌, Option, Result, OnOk, OnErr}
use Rattle.std.specs.Io.KnownBytes.{Appends}
use Rattle.tile_io.specs.Faults.{HasCause}
use Rattle.tile_io.specs.Prints.{AppendsFront}

-- what was held and the piece behind it are now out or held, in this order
abbrev pub Carries : Option (List ℕ) → Option (List ℕ) → List ℕ → List ℕ → List ℕ → Type 0
Carries old new held_before held piece = (out : List ℕ) × Appends old new out × (held_before ++ piece ≡ out ++ held)

-- The piece was taken behind what was held. Where a write failed, a front of both is out, and nothing is held.
pub record PassesOn {S T E : Type 0} (written : S → Option (List ℕ)) (faults : S → ℕ) (old new : S) (held_before held : List ℕ) (result : Result T E) (piece : List ℕ) : Type 0 where
  pub taken : OnOk result (Carries (written old) (written new) held_before held piece)
  pub front : OnErr result (AppendsFront (written old) (written new) (held_before ++ piece))
  pub dropped : OnErr result (held ≡ [])
  pub cause : HasCause faults old new result
