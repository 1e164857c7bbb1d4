-- What the reader of a line finds.
use Rattle.std.specs.Prelude.{◌≡◌, ◌<◌, ℕ, List, Option, Some, None}
use Rattle.std.specs.Option.{option_to_list}
use Rattle.tile_io.specs.declared.mark.Mark.{Mark}
use Rattle.tile_io.specs.NextLine.{IsMark}
use Rattle.job_board.specs.declared.limits.TheConstants.{MOST_JOBS}
use Rattle.job_board.specs.declared.position.Position.{Position}
use Rattle.job_board.specs.declared.position.Position.TheVariants.{AtStart, Behind}
use Rattle.job_board.specs.declared.position.BatchItem.{BatchItem}
use Rattle.job_board.specs.declared.position.BatchItem.TheVariants.{Header, JobLine}
use Rattle.job_board.specs.BatchLines.{ReadsLine}

-- what a line at a position is, if there is one: the header, or that of a job behind fewer than the most
abbrev pub IsFoundAt : Position → Option BatchItem → Type 0
IsFoundAt position None = Unit {0}
IsFoundAt AtStart (Some Header) = Unit {0}
IsFoundAt AtStart (Some (JobLine choice)) = ⊥
IsFoundAt (Behind jobs) (Some Header) = ⊥
IsFoundAt (Behind jobs) (Some (JobLine choice)) = jobs < MOST_JOBS

-- what the reader of a line holds
pub record HoldsLine (position : Position) (taken : Option BatchItem) (items : List BatchItem) : Type 0 where
  pub items_are : items ≡ option_to_list taken
  pub found : IsFoundAt position taken

-- the next line, or none, up to this mark
pub record FindsLine (position : Position) (text : List ℕ) (from : Mark) (found : Option BatchItem) (to : Mark) : Type 0 where
  pub reads : ReadsLine position text from found to
  pub is_at : IsFoundAt position found
  pub mark : IsMark text to
