-- A row of the table of commands: all that a command is to who runs it.
use Rattle.std.specs.Prelude.{◌≡◌, ◌≤◌, ℕ, Bool, true, false, List, [], length, Option, Some}
use Rattle.tile_io.specs.declared.fault.Cause.{Cause}
use Rattle.tile_io.specs.declared.fault.TextFault.{TextFault}
use Rattle.tile_io.specs.declared.mark.Mark.{Mark}
use Rattle.tile_io.specs.Formats.{Format}
use Rattle.atam.specs.TileSystem.{TileSystem}
use Rattle.tile_text.specs.SystemText.{FaultAny, ReadsAny}
use Rattle.site_table.specs.Seats.{GrownValue}
use Rattle.counter_compile.specs.declared.stop.CounterStop.{CounterStop}
use Rattle.tilebench.specs.Inputs.{FailsInput, FailsWithin, IsReadable, IsSystemThen, IsWholeInput}
use Rattle.tilebench.specs.Growing.{TellsNoGrowth}

pub record RoomRow : Type 1 where
  -- whether it reads the source, to its end; the input of one that does not is empty
  pub reads : Bool
  -- what it answers to the input, with the growth that it hands out: whether it is a yes, and the text
  pub answers : Option GrownValue → List ℕ → Bool → List ℕ → Type 0
  -- which inputs it takes
  pub takes : List ℕ → Type 0
  -- the first fault of an input
  pub fails : List ℕ → TextFault → Type 0
  -- why it refuses the numbers among its words
  pub refuses : CounterStop → Type 0

-- a command that reads the text of a value and then one of a format, and refuses no numbers: what the text reads as and its faults, what follows it, and the answers
abbrev pub reading : {Value Item : Type 0} →
    (List ℕ → Mark → Value → Mark → Type 0) → (List ℕ → Mark → ℕ → Cause → Type 0) → (Value → Format Item) →
    (Option GrownValue → List ℕ → Bool → List ℕ → Type 0) → RoomRow
reading IsText IsFault format Answers = record {
  reads = true;
  answers = Answers;
  takes = IsReadable IsText format;
  fails = FailsWithin IsText IsFault format;
  refuses = λ stop. ⊥;
}

-- a command that reads the text of a system and then of an item of it, and hands out no growth: the
-- format of the item, what it reads as, and the answers to the system and the item
abbrev pub answering : {Line Item : Type 0} → (TileSystem → Format Line) →
    (TileSystem → List ℕ → Mark → Item → Type 0) → (TileSystem → Item → Bool → List ℕ → Type 0) →
    RoomRow
answering {Line} {Item} format Reads Answers = reading ReadsAny FaultAny format (TellsNoGrowth
    (λ input is_yes text. (sys : TileSystem) × (item : Item) × IsSystemThen Reads input sys item
    × Answers sys item is_yes text))

-- a command that reads nothing, and may refuse its numbers: the answers, and why it refuses
abbrev pub making : (Option GrownValue → Bool → List ℕ → Type 0) → (CounterStop → Type 0) → RoomRow
making Answers Refuses = record {
  reads = false;
  answers = λ grown input. Answers grown;
  takes = λ input. Unit {0};
  fails = λ input fault. ⊥;
  refuses = Refuses;
}

-- an answer to what was left of the source, or with nothing read, with the growth that it hands out
pub record AnswersLeft (row : RoomRow) (grown : Option GrownValue) (left left_after : Option (List ℕ)) (is_yes : Bool) (text : List ℕ) : Type 0 where
  pub input : List ℕ
  pub whole : row.reads ≡ true → IsWholeInput left left_after input
  pub unread : row.reads ≡ false → (left_after ≡ left) × (input ≡ [])
  pub answer : row.answers grown input is_yes text

-- the first fault of what was left of the source
abbrev pub FailsLeft : RoomRow → Option (List ℕ) → Option (List ℕ) → TextFault → Type 0
FailsLeft row left left_after fault =
    (row.reads ≡ true) × FailsInput row.fails left left_after fault

-- what is left of the source is known, short and taken if it is read, and no number is refused
pub record IsReadyFor (row : RoomRow) (left : Option (List ℕ)) : Type 0 where
  pub takes : row.reads ≡ true → (input : List ℕ) × (left ≡ Some input)
      × (length input ≤ 67108864) × row.takes input
  pub accepts : (stop : CounterStop) → ¬ row.refuses stop
