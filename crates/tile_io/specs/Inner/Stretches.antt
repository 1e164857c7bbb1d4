-- A text that is read in stretches: what the lines up to a mark are, and what a stretch more makes of it.
use Rattle.std.specs.Prelude.{◌≡◌, ℕ, ◌+◌, ◌≤◌, List, length, take, Result, Ok, Err}
use Rattle.tile_io.specs.declared.fault.Cause.{Cause}
use Rattle.tile_io.specs.declared.fault.TextStop.{TextStop}
use Rattle.tile_io.specs.declared.fault.TextStop.TheVariants as stops
use Rattle.tile_io.specs.declared.mark.Mark.{Mark}
use Rattle.tile_io.specs.declared.stretch.Stretch.{Stretch}
use Rattle.tile_io.specs.declared.stretch.Stretch.TheVariants.{Ended, Left}
use Rattle.tile_io.specs.Lines.{lines_from, mark_after}
use Rattle.tile_io.specs.Formats.{Format, Passes, Fault, FailsAtLine, ReadsToEndLine, missing_cause}
use Rattle.tile_io.specs.LineReader.{ReadsInto}

-- the mark of a text that a mark of its rest is, without so many bytes and lines
abbrev pub moved : ℕ → ℕ → Mark → Mark
moved bytes lines mark = record { at = bytes + mark.at; line = lines + mark.line }

module _ {Item : Type 0} (format : Format Item) where
  -- The lines from one mark up to another pass, and are these items.
  pub record Progress (text : List ℕ) (from : Mark) (items : List Item) (at : Mark) : Type 0 where
    pub count : ℕ
    pub within : count ≤ length (lines_from text from)
    pub passed : Passes format (take count (lines_from text from)) items
    pub place : at ≡ mark_after (lines_from text from) from count

  -- so they are items that the reader holds, and this cause is missing after them
  pub record ReadsSoFar (text : List ℕ) (from : Mark) (Holds : List Item → Type 0) (at : Mark) (missing : Cause) : Type 0 where
    pub items : List Item
    pub held : Holds items
    pub progress : Progress text from items at
    pub missing_is : missing ≡ missing_cause items

  -- the lines up to the text's own end line are items that the reader holds
  pub record EndsInto (text : List ℕ) (from : Mark) (Holds : List Item → Type 0) (to : Mark) : Type 0 where
    pub items : List Item
    pub held : Holds items
    pub reads : ReadsToEndLine format (lines_from text from) from items to

  -- A stretch more of a text: up to its own end line, or all lines that are left; or one of them fails.
  abbrev pub IsStretch : List ℕ → Mark → ℕ → ℕ → (List Item → Type 0) → Result Stretch TextStop → Type 0
  IsStretch text from bytes lines Holds (Ok (Ended to)) = EndsInto text from Holds (moved bytes lines to)
  IsStretch text from bytes lines Holds (Ok (Left to missing)) = ReadsSoFar text from Holds (moved bytes lines to) missing × (bytes + to.at ≡ length text)
  IsStretch text from bytes lines Holds (Err (stops.Fault fault)) = FailsAtLine format (lines_from text from) from (lines + fault.line) fault.cause
  IsStretch text from bytes lines Holds (Err stops.NoMemory) = Unit {0}

  -- the last stretch of a text
  abbrev pub ReadsRest : List ℕ → Mark → ℕ → ℕ → (List Item → Type 0) → Result Mark TextStop → Type 0
  ReadsRest text from bytes lines Holds (Ok to) = ReadsInto format text from Holds (moved bytes lines to)
  ReadsRest text from bytes lines Holds (Err (stops.Fault fault)) = Fault format text from (lines + fault.line) fault.cause
  ReadsRest text from bytes lines Holds (Err stops.NoMemory) = Unit {0}
