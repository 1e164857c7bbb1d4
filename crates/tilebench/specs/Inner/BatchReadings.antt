-- A batch either reads or has a fault.
use Rattle.tile_io.specs.Lines.{first_mark}
use Rattle.std.proofs.Common.{ℕ, List}
use Rattle.tile_io.specs.declared.fault.TextFault.{TextFault}
use Rattle.job_board.specs.declared.job.Job.{Job}
use Rattle.job_board.specs.BatchText.{FaultBatch}
use Rattle.job_board.proofs.OneBatch.{batch_not_both}
use Rattle.tilebench.specs.Inputs.{IsBatch}

pub taken_or_faulty_batch : (input : List ℕ) (fault : TextFault) → ((jobs : List Job) × IsBatch input jobs) →
    FaultBatch input first_mark fault.line fault.cause → ⊥
taken_or_faulty_batch input fault (jobs, batch) fails = batch_not_both input first_mark jobs fault.line fault.cause batch fails
