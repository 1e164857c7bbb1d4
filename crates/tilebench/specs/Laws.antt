-- Laws of what commands answer.
use Rattle.tile_text.specs.SystemText.{ReadsAny}
use Rattle.std.specs.Prelude.{◌≡◌, ◌⊎◌, ◌≤◌, ◌++◌, ℕ, Bool, List, length, Option, Some}
use Rattle.atam.specs.declared.place.Place.{Place}
use Rattle.atam.specs.TileSystem.{TileSystem}
use Rattle.site_table.specs.Seats.{GrownValue}
use Rattle.watch_frames.specs.Frames.{AreFrames}
use Rattle.watch_frames.specs.FrameText.{frames_text}
use Rattle.unique_law.specs.Within.{IsYesWithin}
use Rattle.tilebench.specs.Inputs.{IsAlone}
use Rattle.tilebench.specs.Commands.Grow.{IsGrowthText}
use Rattle.tilebench.specs.Commands.Watch.{TellsWatchedGrowth}
use Rattle.tilebench.specs.Growing.{TellsGrowth}

-- a text is so many frames of the input's system with the line `grown`, and then this one
pub record HasFramesBefore (frames : ℕ) (input growth text : List ℕ) : Type 0 where
  pub sys : TileSystem
  pub read : IsAlone ReadsAny input sys
  pub places : List Place
  pub counts : List ℕ
  pub are : AreFrames sys places counts
  pub taken : length counts ≡ frames
  pub printed : text ≡ frames_text sys places counts ++ growth

-- `grow` gives this answer by so many workers, of these tiles
pub record IsGrowAnswerOf (workers : ℕ) (table : GrownValue) (input : List ℕ) (is_yes : Bool) (growth : List ℕ) : Type 0 where
  pub grown : GrownValue
  pub same : grown.grid ≡ table.grid
  pub answer : TellsGrowth IsGrowthText workers (Some grown) input is_yes growth

-- without its frames and the line `grown`, an answer of `watch` by whatever workers is one that `grow` gives of the same tiles, by any workers
abbrev pub WatchAnswersAsGrow : Type 0
WatchAnswersAsGrow = (watching frames workers : ℕ) (table : GrownValue) (input : List ℕ) (is_yes : Bool) (text : List ℕ) → 1 ≤ workers →
    TellsWatchedGrowth watching frames (Some table) input is_yes text →
    (growth : List ℕ) × HasFramesBefore frames input growth text × IsGrowAnswerOf workers table input is_yes growth

-- wherever one of their verdicts is yes or names the third condition, it has the bytes of every answer of `grow`
abbrev pub WatchPrintsAsGrow : Type 0
WatchPrintsAsGrow = (watching frames workers : ℕ) (watched grown : Option GrownValue) (input : List ℕ) (is_yes is_yes_too : Bool) (text growth : List ℕ) →
    (watch : TellsWatchedGrowth watching frames watched input is_yes text) → (grow : TellsGrowth IsGrowthText workers grown input is_yes_too growth) →
    IsYesWithin watch.told.grown.outcome.verdict ⊎ IsYesWithin grow.told.outcome.verdict →
    HasFramesBefore frames input growth text
