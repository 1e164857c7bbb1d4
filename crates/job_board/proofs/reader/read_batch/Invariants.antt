use Rattle.std.proofs.Common.{◌≡◌, ◌-◌, ◌≤◌, length}
use Rattle.tile_io.specs.NextLine.{IsMark}
use Rattle.job_board.specs.declared.limits.TheConstants.{MOST_JOBS}
use Rattle.job_board.specs.BatchText.{BeginsBatch, sites_of}
use Rattle.job_board.proofs.reader.read_batch.Given as goal

-- the jobs so far, up to the mark, with their sites
abbrev pub invariant-jobs : goal.invariant-jobs
invariant-jobs l = record {
  begins : BeginsBatch l.text l.fn.from l.jobs.items l.mark;
  mark : IsMark l.text l.mark;
  sites : l.sites ≡ sites_of l.jobs.items;
  few : length l.jobs.items ≤ MOST_JOBS;
}

abbrev pub decreases-jobs : goal.decreases-jobs
decreases-jobs l = MOST_JOBS - length l.jobs.items
