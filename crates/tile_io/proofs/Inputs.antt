-- What is read of a text that comes from a source, by what is read of its bytes.
use Rattle.std.proofs.Common.{ℕ, ◌≤◌, List, length, Option, Err, arith}
use Rattle.std.proofs.Math.Nat.{le_refl}
use Rattle.std.specs.Io.KnownBytes.{IsAtEnd}
use Rattle.tile_io.specs.declared.fault.TextStop.{TextStop}
use Rattle.tile_io.specs.declared.fault.TextStop.TheVariants as stops
use Rattle.tile_io.specs.declared.mark.Mark.{Mark}
use Rattle.tile_io.specs.declared.blocks.InputStop.TheVariants.{Unread}
use Rattle.tile_io.specs.declared.whole.ReadStop.TheVariants.{NoMemory}
use Rattle.tile_io.specs.Blocks.{ReadsInBlocks, StopsInBlocks, IsWholeText, stop_of_text}
use Rattle.tile_io.specs.Formats.{Format, ReadsOrStops}
use Rattle.tile_io.proofs.TakenOn.{takes_none}

module _ {S : Type 0} (left : S → Option (List ℕ)) (faults : S → ℕ) {Item Answer : Type 0} (format : Format Item) (front : List ℕ) (from : Mark) (IsReadAs : List ℕ → Answer → Type 0) (old new : S) where
  -- a stop of the whole text
  pub stopped : (whole : List ℕ) (stop : TextStop) → IsWholeText (left old) (left new) front whole → faults old ≤ faults new → ReadsOrStops {Answer = Answer} format whole from (IsReadAs whole) (Err stop) → ReadsInBlocks left faults format front from IsReadAs old new (Err (stop_of_text stop))
  stopped whole (stops.Fault fault) is same fails = ((whole, is, fails), same)
  stopped whole stops.NoMemory is same fails = ((whole, is.taken, (let few = is.short in omega (arith, few))), same)

-- nothing was read yet, for want of memory
pub none_read : {S Item : Type 0} (left : S → Option (List ℕ)) (faults : S → ℕ) (format : Format Item) (front : List ℕ) (from : Mark) (old : S) → length front ≤ 67108864 → StopsInBlocks left faults format front from old old (Unread NoMemory)
none_read left faults format front from old short = ((front, takes_none (left old) front, omega (arith, short)), le_refl (faults old))

-- bytes behind which a source is at its end are the whole text
pub all_there : (left : Option (List ℕ)) (front : List ℕ) → length front ≤ 67108864 → IsAtEnd left → IsWholeText left left front front
all_there left front short at_end = record { taken = takes_none left front; at_end = at_end; short = short }
