-- The input of a command, and its faults.
use Rattle.std.specs.Prelude.{◌≡◌, ◌⊎◌, ◌<◌, ◌≤◌, ℕ, Bool, true, List, length, Option}
use Rattle.std.specs.Io.KnownBytes.{Consumes, IsAtEnd}
use Rattle.tile_io.specs.declared.fault.Cause.{Cause}
use Rattle.tile_io.specs.declared.fault.Cause.TheVariants.{TooLong}
use Rattle.tile_io.specs.declared.fault.TextFault.{TextFault}
use Rattle.tile_io.specs.declared.mark.Mark.{Mark}
use Rattle.tile_io.specs.Checks.{nothing_more}
use Rattle.tile_io.specs.Lines.{first_mark}
use Rattle.tile_io.specs.Formats.{Format, Fault, IsRead}
use Rattle.tile_io.specs.Rest.{HasNoMore}
use Rattle.atam.specs.declared.place.Place.{Place}
use Rattle.atam.specs.TileSystem.{TileSystem}
use Rattle.atam.specs.Placements.{HasDistinctSites, SamePlacements}
use Rattle.tile_text.specs.SystemText.{ReadsAny}
use Rattle.seq_text.specs.GrowthText.{ReadsPlaces}
use Rattle.job_board.specs.declared.job.Job.{Job}
use Rattle.job_board.specs.BatchText.{ReadsBatch}

-- the input is the text of this value, as its kind of text is read, and then what may stand behind it
pub record IsTextThen {Value : Type 0} (IsText : List ℕ → Mark → Value → Mark → Type 0) (IsRest : Value → Mark → Type 0) (input : List ℕ) (value : Value) : Type 0 where
  pub end : Mark
  pub reads : IsText input first_mark value end
  pub rest : IsRest value end

-- and only empty lines and remarks follow it
abbrev pub IsAlone : {Value : Type 0} → (List ℕ → Mark → Value → Mark → Type 0) → List ℕ → Value → Type 0
IsAlone IsText input value = IsTextThen IsText (λ value end. HasNoMore input end) input value

-- the input is the text of a system and then of this item of it, to its end: a sequence;
-- an assembly, with one line for a site at most; the entries of a certificate; or events
abbrev pub IsSystemThen : {Item : Type 0} → (TileSystem → List ℕ → Mark → Item → Type 0) →
    List ℕ → TileSystem → Item → Type 0
IsSystemThen Reads input sys item = IsTextThen ReadsAny (λ s end. Reads s input end item) input sys

-- the text from a mark on, up to its end, reads as placements, and the assembly has exactly these,
-- one at each site
pub record ReadsAssembly (sys : TileSystem) (text : List ℕ) (from : Mark)
    (tiles : List Place) : Type 0 where
  pub places : List Place
  pub reads : ReadsPlaces true sys text from places
  pub same : SamePlacements places tiles
  pub distinct : HasDistinctSites tiles

-- of a kind of text, by what it reads as and by its faults, followed by a text of another format
module _ {Value Item : Type 0} (IsText : List ℕ → Mark → Value → Mark → Type 0) where
  -- the input is the text of some value, and then one of this format
  abbrev pub IsReadable : (Value → Format Item) → List ℕ → Type 0
  IsReadable format input =
      (value : Value) × IsTextThen IsText (λ value end. IsRead (format value) input end) input value

  -- the text of a value, or what follows it, has this first fault
  abbrev pub FailsWithin : (List ℕ → Mark → ℕ → Cause → Type 0) → (Value → Format Item) → List ℕ → TextFault → Type 0
  FailsWithin IsFault format input fault = IsFault input first_mark fault.line fault.cause
      ⊎ ((value : Value)
      × IsTextThen IsText (λ value end. Fault (format value) input end fault.line fault.cause) input value)

-- the input is the text of a batch of these jobs, which goes on to its end
abbrev pub IsBatch : List ℕ → List Job → Type 0
IsBatch input jobs = ReadsBatch input first_mark jobs

-- what follows where nothing may
abbrev pub alone : {Value : Type 0} → Value → Format ⊥
alone value = nothing_more

-- the source was read to its end, and held this
pub record IsWholeInput (left left_after : Option (List ℕ)) (input : List ℕ) : Type 0 where
  pub read : Consumes left left_after input
  pub at_end : IsAtEnd left_after
  pub short : length input ≤ 67108864

-- an answer to all that was left of the source
pub record AnswersInput (Answers : List ℕ → Bool → List ℕ → Type 0) (left left_after : Option (List ℕ)) (is_yes : Bool) (text : List ℕ) : Type 0 where
  pub input : List ℕ
  pub whole : IsWholeInput left left_after input
  pub answer : Answers input is_yes text

-- the source was found to hold too much, which is told for line 0; or this is the first fault of
-- all that was left of it
abbrev pub FailsInput : (List ℕ → TextFault → Type 0) → Option (List ℕ) → Option (List ℕ) → TextFault → Type 0
FailsInput Fails left left_after fault =
    ((taken : List ℕ) × Consumes left left_after taken × (67108864 < length taken)
    × (fault ≡ record { line = 0; cause = TooLong }))
    ⊎ ((input : List ℕ) × IsWholeInput left left_after input × Fails input fault)
