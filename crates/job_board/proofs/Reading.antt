-- What is found in a batch step by step, and what that makes of it.
use Rattle.std.proofs.Common.{◌≡◌, ◌≢◌, ℕ, suc, ◌+◌, ◌<◌, ◌≤◌, List, [], ◌∷◌, ◌++◌, length, Some, None, Option, Err, refl, ap, sym, ◌∙◌, subst, arith, inl, inr, length-append}
use Rattle.std.proofs.lemmas.List.Sums.{sum_by_push}
use Rattle.tile_io.specs.declared.fault.Cause.{Cause}
use Rattle.tile_io.specs.declared.fault.Cause.TheVariants.{NoEnd, TooMany}
use Rattle.tile_io.specs.declared.fault.TextStop.{TextStop}
use Rattle.tile_io.specs.declared.fault.TextStop.TheVariants.{Fault, NoMemory}
use Rattle.tile_io.specs.declared.mark.Mark.{Mark}
use Rattle.tile_io.specs.Checks.{nothing_more}
use Rattle.tile_io.specs.Formats.{Reads}
use Rattle.tile_io.specs.Lines.{lines_from}
use Rattle.tile_io.specs.NextLine.{IsMark}
use Rattle.tile_io.specs.Rest.{HasMore, HasNoMore}
use Rattle.tile_io.proofs.Laws.{not_both}
use Rattle.atam.specs.TileSystem.{TileSystem}
use Rattle.assembly.specs.Cells.{cell_count}
use Rattle.tile_text.specs.SystemText.{FaultAny, ReadsAny}
use Rattle.job_board.specs.declared.job.Job.{Job}
use Rattle.job_board.specs.declared.limits.TheConstants.{MOST_SITES}
use Rattle.job_board.specs.declared.position.Position.TheVariants.{AtStart, Behind}
use Rattle.job_board.specs.declared.position.BatchItem.{BatchItem}
use Rattle.job_board.specs.declared.position.BatchItem.TheVariants.{Header, JobLine}
use Rattle.job_board.specs.BatchLines.{batch_format, batch_table}
use Rattle.job_board.specs.BatchText.{ReadsJob, ReadsJobs, BeginsBatch, ReadsBatch, FailsNext, FaultBatch, ReadsBatchOrStops, sites_of, FailsSystem}
use Rattle.job_board.specs.Inner.FoundLines.{FindsLine}
use Rattle.job_board.specs.Inner.Reading.{BeginsAt, FindsJob, FindsEnd, FindsNext, FindsWithin, FindsSystem}

-- a mark has a line number
pub mark_line : (text : List ℕ) (mark : Mark) → IsMark text mark → 1 ≤ mark.line
mark_line text mark is = omega (arith, ap (λ (m : Mark). m.line) is.place)

-- at the start a line is found
pub no_header : (text : List ℕ) (from to : Mark) → Reads (batch_format AtStart) text from [] to → ⊥
unfolding batch_table
no_header text from to (inl ended) = absurd (omega (arith, length-append ended.earlier (ended.last ∷ []), ap length ended.whole))
no_header text from to (inr done) = absurd (cc done.complete)

-- which is the header
pub header_found : (text : List ℕ) (from to : Mark) (found : Option BatchItem) → FindsLine AtStart text from found to → BeginsAt text from to
header_found text from to None finds = absurd (no_header text from to finds.reads)
header_found text from to (Some Header) finds = record { header = finds.reads; mark = finds.mark }
header_found text from to (Some (JobLine choice)) finds = absurd finds.is_at

-- where nothing more follows the text ends with its last line
pub end_line : (text : List ℕ) (from to : Mark) → Reads nothing_more text from [] to → to.line ≡ from.line + length (lines_from text from)
end_line text from to (inl ended) = absurd (cc ended.ends)
end_line text from to (inr done) = ap (λ (m : Mark). m.line) done.place

-- something follows where the rest has a fault
pub something_more : (text : List ℕ) (from : Mark) (number : ℕ) (cause : Cause) → HasMore text from number cause → ¬ HasNoMore text from
something_more text from number cause more none = not_both nothing_more text from [] none.0 number cause none.1 more

-- the input ends behind a job's line
pub system_lacks : (text : List ℕ) (from : Mark) (jobs : List Job) (number : ℕ) → HasNoMore text from → number ≡ from.line + length (lines_from text from) → FailsSystem text from jobs number NoEnd
system_lacks text from jobs number none is = inl (none.0, none.1, is ∙ sym (end_line text from none.0 none.1), refl)

-- a system's fault, and too many sites
pub system_fails : (text : List ℕ) (from : Mark) (jobs : List Job) (number : ℕ) (cause : Cause) → ¬ HasNoMore text from → FaultAny text from number cause →
    FailsSystem text from jobs number cause
system_fails text from jobs number cause more fault = inr (inl (more, fault))

pub sites_fail : (text : List ℕ) (from to : Mark) (jobs : List Job) (sys : TileSystem) (number : ℕ) → ReadsAny text from sys to → MOST_SITES < sites_of jobs + cell_count sys.area → number + 1 ≡ to.line →
    FailsSystem text from jobs number TooMany
sites_fail text from to jobs sys number reads many is = inr (inr (sys, to, reads, many, is, refl))

-- a job's line, and then its system
pub job_found : (text : List ℕ) (from behind to : Mark) (jobs : List Job) (choice : ℕ) (sys : TileSystem) (count : ℕ) → FindsLine (Behind (length jobs)) text from (Some (JobLine choice)) behind →
    FindsWithin text behind jobs sys to count → FindsJob text from jobs (record { sys = sys; choice = choice }) to count
job_found text from behind to jobs choice sys count line within = record {
  reads = record { behind = behind; line = line.reads; system = within.reads };
  mark = within.mark;
  count_is = within.count_is;
  few_sites = within.few_sites;
  few_jobs = line.is_at;
}

pub job_fails : (text : List ℕ) (from behind : Mark) (jobs : List Job) (choice : ℕ) (stop : TextStop) → FindsLine (Behind (length jobs)) text from (Some (JobLine choice)) behind →
    FindsSystem text behind jobs (Err stop) → FindsNext text from jobs (Err stop)
job_fails text from behind jobs choice (Fault fault) line fails = inr (inr (choice, behind, line.reads, fails))
job_fails text from behind jobs choice NoMemory line fails = tt

-- no job was found, and there is none
pub jobs_lack : (text : List ℕ) (from end : Mark) (jobs : List Job) → jobs ≡ [] → FindsLine (Behind (length jobs)) text from None end → FailsNext text from jobs end.line NoEnd
jobs_lack text from end jobs none line = inr (inl (end, line.reads, none, refl, refl))

pub some_job : (jobs : List Job) → jobs ≢ [] → 1 ≤ length jobs
some_job [] some = absurd (some refl)
some_job (job ∷ jobs) some = omega arith

-- one job more
pub ReadsJobs-more : (text : List ℕ) (from middle to : Mark) (before : ℕ) (jobs : List Job) (job : Job) → ReadsJobs text from before jobs middle → ReadsJob text middle (before + length jobs) job to →
    ReadsJobs text from before (jobs ++ job ∷ []) to
ReadsJobs-more text from middle to before [] job all one =
    let count : before + 0 ≡ before = omega arith in
    let place : middle ≡ from = all in
    (to, subst (λ (m : Mark). ReadsJob text m before job to) place (subst (λ n. ReadsJob text middle n job to) count one), refl)
ReadsJobs-more text from middle to before (first ∷ jobs) job all one =
    let count : before + suc (length jobs) ≡ before + 1 + length jobs = omega arith in
    (all.0, all.1, ReadsJobs-more text all.0 middle to (before + 1) jobs job all.2 (subst (λ n. ReadsJob text middle n job to) count one))

pub sites_more : (jobs : List Job) (job : Job) → sites_of (jobs ++ job ∷ []) ≡ sites_of jobs + cell_count job.sys.area
sites_more jobs job = sum_by_push (λ (one : Job). cell_count one.sys.area) jobs job

-- a batch of no jobs yet, and of one more
pub batch_start : (text : List ℕ) (from start : Mark) → BeginsAt text from start → BeginsBatch text from [] start
batch_start text from start begins = record { start = start; header = begins.header; each = refl; few = omega arith }

pub batch_more : (text : List ℕ) (from middle to : Mark) (jobs : List Job) (job : Job) (count : ℕ) → BeginsBatch text from jobs middle → FindsJob text middle jobs job to count → BeginsBatch text from (jobs ++ job ∷ []) to
batch_more text from middle to jobs job count begins found =
    let same : 0 + length jobs ≡ length jobs = omega arith in
    record {
      start = begins.start;
      header = begins.header;
      each = ReadsJobs-more text begins.start middle to 0 jobs job begins.each (subst (λ n. ReadsJob text middle n job to) (sym same) found.reads);
      few = omega (arith, sites_more jobs job, found.few_sites, found.count_is);
    }

-- its end, and what fails behind it
pub batch_ends : (text : List ℕ) (from last : Mark) (jobs : List Job) → BeginsBatch text from jobs last → FindsEnd text last jobs → ReadsBatch text from jobs
batch_ends text from last jobs begins finds = record { last = last; begins = begins; some = finds.some; end = finds.end; ends = finds.ends }

pub batch_fails : (text : List ℕ) (from at : Mark) (jobs : List Job) (number : ℕ) (cause : Cause) → BeginsBatch text from jobs at → FailsNext text at jobs number cause → FaultBatch text from number cause
batch_fails text from at jobs number cause begins fails = inr (jobs, at, begins, fails)

-- the same where it stops, with that fault or without memory
pub batch_stops : {Answer : Type 0} (IsReadAs : Answer → Type 0) (text : List ℕ) (from at : Mark) (jobs : List Job) (stop : TextStop) → BeginsBatch text from jobs at → FindsNext text at jobs (Err stop) →
    ReadsBatchOrStops text from IsReadAs (Err stop)
batch_stops IsReadAs text from at jobs (Fault fault) begins fails = batch_fails text from at jobs fault.line fault.cause begins fails
batch_stops IsReadAs text from at jobs NoMemory begins fails = tt
