-- The text of a batch: which jobs it is of, and its first fault.
use Rattle.std.specs.Prelude.{◌≡◌, ◌⊎◌, ℕ, ◌+◌, ◌<◌, ◌≤◌, List, [], ◌∷◌, length, sum_by, Some, None, Result, Ok, Err}
use Rattle.tile_io.specs.declared.fault.Cause.{Cause}
use Rattle.tile_io.specs.declared.fault.Cause.TheVariants.{NoEnd, TooMany}
use Rattle.tile_io.specs.declared.fault.TextStop.{TextStop}
use Rattle.tile_io.specs.declared.fault.TextStop.TheVariants as stops
use Rattle.tile_io.specs.declared.mark.Mark.{Mark}
use Rattle.tile_io.specs.Formats.{Fault, Reads}
use Rattle.tile_io.specs.Checks.{nothing_more}
use Rattle.tile_io.specs.Rest.{HasNoMore}
use Rattle.atam.specs.TileSystem.{TileSystem}
use Rattle.assembly.specs.Cells.{cell_count}
use Rattle.tile_text.specs.SystemText.{FaultAny, ReadsAny}
use Rattle.job_board.specs.declared.job.Job.{Job}
use Rattle.job_board.specs.declared.position.Position.TheVariants.{AtStart, Behind}
use Rattle.job_board.specs.declared.position.BatchItem.TheVariants.{Header, JobLine}
use Rattle.job_board.specs.BatchLines.{ReadsLine, batch_format}

-- how many sites the boxes of jobs have together
abbrev pub sites_of : List Job → ℕ
sites_of jobs = sum_by (λ job. cell_count job.sys.area) jobs

-- A job behind so many others: its line, and then the text of its system, of either version, up to this mark.
pub record ReadsJob (text : List ℕ) (from : Mark) (before : ℕ) (job : Job) (to : Mark) : Type 0 where
  pub behind : Mark
  pub line : ReadsLine (Behind before) text from (Some (JobLine job.choice)) behind
  pub system : ReadsAny text behind job.sys to

-- jobs one after another
abbrev pub ReadsJobs : List ℕ → Mark → ℕ → List Job → Mark → Type 0
ReadsJobs text from before [] to = to ≡ from
ReadsJobs text from before (job ∷ jobs) to = (next : Mark) × ReadsJob text from before job next × ReadsJobs text next (before + 1) jobs to

-- the header, and then these jobs, whose boxes have few sites
pub record BeginsBatch (text : List ℕ) (from : Mark) (jobs : List Job) (to : Mark) : Type 0 where
  pub start : Mark
  pub header : ReadsLine AtStart text from (Some Header) start
  pub each : ReadsJobs text start 0 jobs to
  pub few : sites_of jobs ≤ 4194304

-- and then the end of the input
pub record ReadsBatch (text : List ℕ) (from : Mark) (jobs : List Job) : Type 0 where
  pub last : Mark
  pub begins : BeginsBatch text from jobs last
  pub some : 1 ≤ length jobs
  pub end : Mark
  pub ends : ReadsLine (Behind (length jobs)) text last None end

-- What may fail behind the line of a job: the input ends with no header of a system; or something
-- stands there, and has this fault as the text of a system; or it is the text of one, with whose
-- box, told of by its end line, there are too many sites.
abbrev pub FailsSystem : List ℕ → Mark → List Job → ℕ → Cause → Type 0
FailsSystem text from jobs number cause =
    ((end : Mark) × Reads nothing_more text from [] end × (number ≡ end.line) × (cause ≡ NoEnd))
    ⊎ ((¬ HasNoMore text from) × FaultAny text from number cause)
    ⊎ ((sys : TileSystem) × (to : Mark) × ReadsAny text from sys to
    × (4194304 < sites_of jobs + cell_count sys.area) × (number + 1 ≡ to.line) × (cause ≡ TooMany))

-- what may fail behind jobs: the next line; or the input ends with no job; or there is the line of
-- a job, and its system fails
abbrev pub FailsNext : List ℕ → Mark → List Job → ℕ → Cause → Type 0
FailsNext text from jobs number cause =
    Fault (batch_format (Behind (length jobs))) text from number cause
    ⊎ ((end : Mark) × ReadsLine (Behind (length jobs)) text from None end
    × (jobs ≡ []) × (number ≡ end.line) × (cause ≡ NoEnd))
    ⊎ ((choice : ℕ) × (behind : Mark)
    × ReadsLine (Behind (length jobs)) text from (Some (JobLine choice)) behind
    × FailsSystem text behind jobs number cause)

-- the first fault of a batch: in its header, or behind that and some jobs
abbrev pub FaultBatch : List ℕ → Mark → ℕ → Cause → Type 0
FaultBatch text from number cause = Fault (batch_format AtStart) text from number cause
    ⊎ ((jobs : List Job) × (at : Mark) × BeginsBatch text from jobs at
    × FailsNext text at jobs number cause)

-- the text is a batch of some jobs
abbrev pub IsReadBatch : List ℕ → Mark → Type 0
IsReadBatch text from = (jobs : List Job) × ReadsBatch text from jobs

-- it has some fault
abbrev pub IsFaultyBatch : List ℕ → Mark → Type 0
IsFaultyBatch text from = (number : ℕ) × (cause : Cause) × FaultBatch text from number cause

-- the text is a batch of the jobs that are answered; or it has the fault that is answered; or there was no memory
abbrev pub ReadsBatchOrStops : {Answer : Type 0} → List ℕ → Mark → (Answer → Type 0) → Result Answer TextStop → Type 0
ReadsBatchOrStops text from IsReadAs (Ok answer) = IsReadAs answer
ReadsBatchOrStops text from IsReadAs (Err (stops.Fault fault)) = FaultBatch text from fault.line fault.cause
ReadsBatchOrStops text from IsReadAs (Err stops.NoMemory) = Unit {0}
