-- What is written, and the status that tells it.
use Rattle.std.proofs.Common.{◌≡◌, ℕ, List, Option, Result, Ok, Err, inl, inr}
use Rattle.tile_io.specs.Prints.{Prints}
use Rattle.tilebench.specs.declared.status.Status.{Status}
use Rattle.tilebench.specs.Inner.Tells.{Writes, written_status}

-- a text that was to be printed is written whole, or a front of it is
pub Writes-printed : {K T E : Type 0} {written : K → Option (List ℕ)} {faults : K → ℕ} {old new : K} {text : List ℕ} (r : Result T E) (told status : Status) → status ≡ written_status r told →
    Prints written faults old new r text → Writes written faults old new told status text
Writes-printed (Ok x) told status outcome printed = inl (record { is = outcome; whole = printed.whole; later = printed.cause.later })
Writes-printed (Err e) told status outcome printed = inr (record { is = outcome; front = printed.front; fault = printed.cause.failed; later = printed.cause.later })
