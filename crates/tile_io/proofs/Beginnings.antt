-- A text that was begun, by how it was read on.
use Rattle.std.proofs.Common.{◌≡◌, ◌<◌, ◌≤◌, ℕ, Bool, true, false, List, [], length, Option, true≢false, sym, arith}
use Rattle.std.specs.Io.KnownBytes.{IsAtEnd}
use Rattle.tile_io.specs.declared.whole.ReadStop.{ReadStop}
use Rattle.tile_io.specs.declared.whole.ReadStop.TheVariants.{Failed, TooLong, NoMemory}
use Rattle.tile_io.specs.Blocks.{IsUnread, ReadsUpTo, StopsBefore, TakesOn}

module _ {S : Type 0} (left : S → Option (List ℕ)) (faults : S → ℕ) (old new : S) where
  -- it is what was taken, and short; and whole only where the source is at its end
  pub record IsBegun (text : List ℕ) (is_whole : Bool) : Type 0 where
    pub taken : TakesOn (left old) (left new) [] text
    pub short : length text ≤ 67108864
    pub whole : is_whole ≡ true → IsAtEnd (left new)
    pub later : faults old ≤ faults new

  pub begun_text : (text : List ℕ) (is_whole : Bool) → ReadsUpTo left faults [] text 1048576 old new is_whole → IsBegun text is_whole
  begun_text text true read =
      let few : length text < 1048576 = read.2 in
      record { taken = read.0; short = omega (arith, few); whole = λ _. read.1; later = read.3 }
  begun_text text false read =
      let full : length text ≡ 1048576 = read.1 in
      record { taken = read.0; short = omega (arith, full); whole = λ is. absurd (true≢false (sym is)); later = read.2 }

  -- what stopped before a block was full stopped before the text was too long
  pub stops_begun : (front : List ℕ) (stop : ReadStop) → StopsBefore left faults front 1048576 old new stop → IsUnread left faults front old new stop
  stops_begun front Failed h = ((h.0.0, h.0.1, (let few = h.0.2 in omega (arith, few))), h.1)
  stops_begun front NoMemory h = ((h.0.0, h.0.1, (let few = h.0.2 in omega (arith, few))), h.1)
  stops_begun front TooLong h = absurd h
