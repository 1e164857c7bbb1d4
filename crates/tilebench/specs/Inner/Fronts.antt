-- The system that an input begins with, in what was read of the input so far.
use Rattle.tile_io.specs.Lines.{first_mark}
use Rattle.std.specs.Prelude.{◌≡◌, ◌≤◌, ℕ, true, List, [], length, Option}
use Rattle.std.specs.Io.KnownBytes.{IsAtEnd}
use Rattle.tile_io.specs.declared.fault.TextFault.{TextFault}
use Rattle.tile_io.specs.declared.limits.TheConstants.{MOST_INPUT}
use Rattle.tile_io.specs.Blocks.{TakesOn}
use Rattle.tile_text.specs.SystemText.{FaultAny, ReadsAny}
use Rattle.tilebench.specs.declared.input.SystemFront.{SystemFront}

-- what was read is short, begins with the text of the system, and is all where it is said so
pub record IsFront (left left_after : Option (List ℕ)) (front : SystemFront) : Type 0 where
  pub taken : TakesOn left left_after [] front.begun.text.items
  pub short : length front.begun.text.items ≤ MOST_INPUT
  pub whole : front.begun.is_whole ≡ true → IsAtEnd left_after
  pub reads : ReadsAny front.begun.text.items first_mark front.sys front.end

-- the text of a system has this first fault
abbrev pub FailsAtFront : List ℕ → TextFault → Type 0
FailsAtFront input fault = FaultAny input first_mark fault.line fault.cause
