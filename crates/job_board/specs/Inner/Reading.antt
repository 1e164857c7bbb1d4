-- What is found in a batch step by step.
use Rattle.std.specs.Prelude.{◌≡◌, ◌+◌, ◌<◌, ◌≤◌, ℕ, List, length, Option, Some, None, Result, Ok, Err}
use Rattle.tile_io.specs.declared.fault.TextStop.{TextStop}
use Rattle.tile_io.specs.declared.fault.TextStop.TheVariants as stops
use Rattle.tile_io.specs.declared.mark.Mark.{Mark}
use Rattle.tile_io.specs.NextLine.{IsMark}
use Rattle.atam.specs.TileSystem.{TileSystem}
use Rattle.assembly.specs.Cells.{cell_count}
use Rattle.tile_text.specs.SystemText.{ReadsAny}
use Rattle.job_board.specs.declared.job.Job.{Job}
use Rattle.job_board.specs.declared.limits.TheConstants.{MOST_JOBS, MOST_SITES}
use Rattle.job_board.specs.declared.position.Position.TheVariants.{AtStart, Behind}
use Rattle.job_board.specs.declared.position.BatchItem.TheVariants.{Header}
use Rattle.job_board.specs.BatchLines.{ReadsLine}
use Rattle.job_board.specs.BatchText.{ReadsJob, FailsNext, sites_of, FailsSystem}

-- the header
pub record BeginsAt (text : List ℕ) (from to : Mark) : Type 0 where
  pub header : ReadsLine AtStart text from (Some Header) to
  pub mark : IsMark text to

-- a job more, with so many sites
pub record FindsJob (text : List ℕ) (from : Mark) (jobs : List Job) (job : Job) (to : Mark) (count : ℕ) : Type 0 where
  pub reads : ReadsJob text from (length jobs) job to
  pub mark : IsMark text to
  pub count_is : count ≡ cell_count job.sys.area
  pub few_sites : sites_of jobs + count ≤ MOST_SITES
  pub few_jobs : length jobs < MOST_JOBS

-- none, since the input ends, behind some job
pub record FindsEnd (text : List ℕ) (from : Mark) (jobs : List Job) : Type 0 where
  pub some : 1 ≤ length jobs
  pub end : Mark
  pub ends : ReadsLine (Behind (length jobs)) text from None end

abbrev pub FindsNext : List ℕ → Mark → List Job → Result (Option (Job × Mark × ℕ)) TextStop → Type 0
FindsNext text from jobs (Ok None) = FindsEnd text from jobs
FindsNext text from jobs (Ok (Some found)) = FindsJob text from jobs found.0 found.1 found.2
FindsNext text from jobs (Err (stops.Fault fault)) = FailsNext text from jobs fault.line fault.cause
FindsNext text from jobs (Err stops.NoMemory) = Unit {0}

-- a system whose box has few sites with those of some jobs
pub record FindsWithin (text : List ℕ) (from : Mark) (jobs : List Job) (sys : TileSystem) (to : Mark) (count : ℕ) : Type 0 where
  pub reads : ReadsAny text from sys to
  pub mark : IsMark text to
  pub count_is : count ≡ cell_count sys.area
  pub few_sites : sites_of jobs + count ≤ MOST_SITES

abbrev pub FindsSystem : List ℕ → Mark → List Job → Result (TileSystem × Mark × ℕ) TextStop → Type 0
FindsSystem text from jobs (Ok found) = FindsWithin text from jobs found.0 found.1 found.2
FindsSystem text from jobs (Err (stops.Fault fault)) =
    FailsSystem text from jobs fault.line fault.cause
FindsSystem text from jobs (Err stops.NoMemory) = Unit {0}
