-- What is held of a source, and what was read of it.
use Rattle.std.proofs.Common.{◌≡◌, ◌≤◌, ◌+◌, ◌++◌, ◌∙◌, ℕ, List, length, Option, Some, None, ap, subst, arith, inl, inr, append-nil, length-append}
use Rattle.std.specs.Io.KnownBytes.{Consumes, IsAtEnd}
use Rattle.tile_io.specs.declared.fault.TextFault.{TextFault}
use Rattle.tile_io.specs.declared.limits.TheConstants.{MOST_INPUT}
use Rattle.tilebench.specs.Inputs.{FailsInput}

-- what was taken of known bytes is at most these
taken_within : (left : List ℕ) (left_after : Option (List ℕ)) (taken : List ℕ) → Consumes (Some left) left_after taken → length taken ≤ length left
taken_within left None taken read = absurd read
taken_within left (Some rest) taken read =
    let sum : length left ≡ length taken + length rest = ap length read ∙ length-append taken rest in
    omega (arith, sum)

-- what was taken of known bytes to their end is these
taken_all : (left : List ℕ) (left_after : Option (List ℕ)) (taken : List ℕ) → Consumes (Some left) left_after taken → IsAtEnd left_after → left ≡ taken
taken_all left None taken read at_end = absurd read
taken_all left (Some rest) taken read at_end = read ∙ ap (λ l. taken ++ l) at_end ∙ append-nil taken

-- where an input is held that is taken, no fault of it is told
module _ (Takes : List ℕ → Type 0) (Fails : List ℕ → TextFault → Type 0) (one_of_two : (input : List ℕ) (fault : TextFault) → Takes input → Fails input fault → ⊥) where
  pub held_or_faulty : (left left_after : Option (List ℕ)) (fault : TextFault) → ((input : List ℕ) × (left ≡ Some input) × (length input ≤ MOST_INPUT) × Takes input) → FailsInput Fails left left_after fault → ⊥
  held_or_faulty left left_after fault (input, known, short, takes) (inl (taken, consumes, long, told)) =
      let read : Consumes (Some input) left_after taken = subst (λ (known : Option (List ℕ)). Consumes known left_after taken) known consumes in
      let few = taken_within input left_after taken read in
      omega (arith, few, long, short)
  held_or_faulty left left_after fault (input, known, short, takes) (inr (whole, is, fails)) =
      let read : Consumes (Some input) left_after whole = subst (λ (known : Option (List ℕ)). Consumes known left_after whole) known is.read in
      let same = taken_all input left_after whole read is.at_end in
      one_of_two whole fault (subst Takes same takes) fails
