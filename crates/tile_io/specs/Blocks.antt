-- What it is to read on from a source, and to read a text that some bytes begin and a source goes on with.
use Rattle.std.specs.Prelude.{◌≡◌, ◌≤◌, ◌<◌, ◌+◌, ◌++◌, ℕ, Bool, true, false, List, [], length, Option, Result, Ok, Err}
use Rattle.std.specs.Io.KnownBytes.{Consumes, IsAtEnd}
use Rattle.tile_io.specs.declared.blocks.Begun.{Begun}
use Rattle.tile_io.specs.declared.blocks.TheConstants.{BLOCK}
use Rattle.tile_io.specs.declared.blocks.InputStop.{InputStop}
use Rattle.tile_io.specs.declared.blocks.InputStop.TheVariants.{Unread, Refused}
use Rattle.tile_io.specs.declared.fault.TextStop.{TextStop}
use Rattle.tile_io.specs.declared.fault.TextStop.TheVariants as stops
use Rattle.tile_io.specs.declared.limits.TheConstants.{MOST_INPUT}
use Rattle.tile_io.specs.declared.mark.Mark.{Mark}
use Rattle.tile_io.specs.declared.whole.ReadStop.{ReadStop}
use Rattle.tile_io.specs.declared.whole.ReadStop.TheVariants.{Failed, TooLong, NoMemory}
use Rattle.tile_io.specs.Faults.{Rose}
use Rattle.tile_io.specs.Formats.{Format, Fault}

-- bytes were taken from a source, and these are the bytes that were there before with them
abbrev pub TakesOn : Option (List ℕ) → Option (List ℕ) → List ℕ → List ℕ → Type 0
TakesOn left left_after front whole = (taken : List ℕ) × Consumes left left_after taken × (whole ≡ front ++ taken)

-- what a stop of a text is where the text comes from a source
abbrev pub stop_of_text : TextStop → InputStop
stop_of_text (stops.Fault fault) = Refused fault
stop_of_text stops.NoMemory = Unread NoMemory

module _ {S : Type 0} (left : S → Option (List ℕ)) (faults : S → ℕ) where
  -- bytes were taken until there were so many, or up to the source's end, where there are fewer
  abbrev pub ReadsUpTo : List ℕ → List ℕ → ℕ → S → S → Bool → Type 0
  ReadsUpTo front whole most old new true = TakesOn (left old) (left new) front whole × IsAtEnd (left new) × (length whole < most) × (faults old ≤ faults new)
  ReadsUpTo front whole most old new false = TakesOn (left old) (left new) front whole × (length whole ≡ most) × (faults old ≤ faults new)

  -- before there were so many, the source failed, or there was no memory
  abbrev pub StopsBefore : List ℕ → ℕ → S → S → ReadStop → Type 0
  StopsBefore front most old new Failed = ((all : List ℕ) × TakesOn (left old) (left new) front all × (length all < most)) × Rose (faults old) (faults new)
  StopsBefore front most old new NoMemory = ((all : List ℕ) × TakesOn (left old) (left new) front all × (length all < most)) × (faults old ≤ faults new)
  StopsBefore front most old new TooLong = ⊥

  -- one or the other
  abbrev pub ReadsOn : List ℕ → List ℕ → ℕ → S → S → Result Bool ReadStop → Type 0
  ReadsOn front whole most old new (Ok is_end) = ReadsUpTo front whole most old new is_end
  ReadsOn front whole most old new (Err stop) = StopsBefore front most old new stop

-- the text that some bytes begin and all that was left of a source goes on with
pub record IsWholeText (left left_after : Option (List ℕ)) (front whole : List ℕ) : Type 0 where
  pub taken : TakesOn left left_after front whole
  pub at_end : IsAtEnd left_after
  pub short : length whole ≤ MOST_INPUT

module _ {S : Type 0} (left : S → Option (List ℕ)) (faults : S → ℕ) where
  -- why a text that begins with these bytes did not come whole: the source failed; or the text was found to be too long; or there was no memory
  abbrev pub IsUnread : List ℕ → S → S → ReadStop → Type 0
  IsUnread front old new Failed = ((all : List ℕ) × TakesOn (left old) (left new) front all × (length all ≤ MOST_INPUT)) × Rose (faults old) (faults new)
  IsUnread front old new TooLong = ((all : List ℕ) × TakesOn (left old) (left new) front all × (length all ≡ MOST_INPUT + 1)) × (faults old ≤ faults new)
  IsUnread front old new NoMemory = ((all : List ℕ) × TakesOn (left old) (left new) front all × (length all ≤ MOST_INPUT)) × (faults old ≤ faults new)

  -- a text was begun by the first block of what was left of a source, or by all of it where that is less
  abbrev pub Begins : S → S → Result Begun ReadStop → Type 0
  Begins old new (Ok begun) = ReadsUpTo left faults [] begun.text.items BLOCK old new begun.is_whole
  Begins old new (Err stop) = StopsBefore left faults [] BLOCK old new stop

  -- a text that begins with these bytes was read whole
  abbrev pub Completes : {Text : Type 0} → (Text → List ℕ) → List ℕ → S → S → Result Text ReadStop → Type 0
  Completes bytes front old new (Ok text) = IsWholeText (left old) (left new) front (bytes text) × (faults old ≤ faults new)
  Completes bytes front old new (Err stop) = IsUnread front old new stop

  module _ {Item : Type 0} (format : Format Item) (front : List ℕ) (from : Mark) where
    -- the whole text has this fault, or did not come
    abbrev pub StopsInBlocks : S → S → InputStop → Type 0
    StopsInBlocks old new (Refused fault) = ((whole : List ℕ) × IsWholeText (left old) (left new) front whole × Fault format whole from fault.line fault.cause) × (faults old ≤ faults new)
    StopsInBlocks old new (Unread stop) = IsUnread front old new stop

    -- the whole text reads as what is answered
    abbrev pub ReadsInBlocks : {Answer : Type 0} → (List ℕ → Answer → Type 0) → S → S → Result Answer InputStop → Type 0
    ReadsInBlocks IsReadAs old new (Ok answer) = ((whole : List ℕ) × IsWholeText (left old) (left new) front whole × IsReadAs whole answer) × (faults old ≤ faults new)
    ReadsInBlocks IsReadAs old new (Err stop) = StopsInBlocks old new stop
