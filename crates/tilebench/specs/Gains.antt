-- What a sink gains.
use Rattle.std.specs.Prelude.{ℕ, List, Option}
use Rattle.std.specs.Io.KnownBytes.{Appends}
use Rattle.tile_io.specs.Faults.{Rose}
use Rattle.tile_io.specs.Prints.{AppendsFront}

module _ {K : Type 0} (written : K → Option (List ℕ)) (faults : K → ℕ) where
  -- a text of this kind
  pub record Gains (IsSaid : List ℕ → Type 0) (old new : K) : Type 0 where
    pub text : List ℕ
    pub said : IsSaid text
    pub whole : Appends (written old) (written new) text

  -- a front of a text of this kind, where the count of faults rose
  pub record GainsFront (IsSaid : List ℕ → Type 0) (old new : K) : Type 0 where
    pub text : List ℕ
    pub said : IsSaid text
    pub front : AppendsFront (written old) (written new) text
    pub fault : Rose (faults old) (faults new)
