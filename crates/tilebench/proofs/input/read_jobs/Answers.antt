use Rattle.std.proofs.Common.{◌≡◌, ℕ, List, Err, Vec, Global, subst}
use Rattle.std.proofs.lemmas.Result.{err_from_is_err_and}
use Rattle.tile_io.specs.declared.fault.TextFault.{TextFault}
use Rattle.tile_io.specs.declared.fault.TextStop.{TextStop}
use Rattle.tile_io.specs.declared.fault.TextStop.TheVariants.{Fault, NoMemory}
use Rattle.tile_io.specs.declared.mark.Mark.{Mark}
use Rattle.tile_io.specs.Lines.{first_mark}
use Rattle.job_board.specs.declared.job.Job.{Job}
use Rattle.job_board.specs.BatchText.{FaultBatch, ReadsBatch, ReadsBatchOrStops}
use Rattle.tilebench.specs.Inputs.{IsBatch}
use Rattle.tilebench.specs.Inner.Gives.{Gives}
use Rattle.tilebench.specs.Inner.Stops.{stop_of_text}
use Rattle.tilebench.proofs.input.read_jobs.Goals as goal

-- where the reading of a batch stops, there is that fault of the input, or no memory
batch_stop : {Answer T : Type 0} (IsReadAs : Answer → Type 0) (Holds : T → Type 0) (text : List ℕ) (from : Mark) (stop : TextStop) → from ≡ first_mark → ReadsBatchOrStops text from IsReadAs (Err stop) →
    Gives Holds (λ (fault : TextFault). FaultBatch text first_mark fault.line fault.cause) (Err (stop_of_text stop))
batch_stop IsReadAs Holds text from (Fault fault) at fails = subst (λ (m : Mark). FaultBatch text m fault.line fault.cause) at fails
batch_stop IsReadAs Holds text from NoMemory at fails = tt

pub returns-in_err-read_batch-clause-read : goal.returns-in_err-read_batch-clause-read
returns-in_err-read_batch-clause-read c =
    let p = err_from_is_err_and c.from_residual.result c.from_residual.ensures.1 in
    rw (p.1, p.2) (batch_stop (λ (jobs : Vec Job Global). ReadsBatch c.args.input.now c.start.result jobs.items) (λ (jobs : Vec Job Global). IsBatch c.args.input.now jobs.items) c.args.input.now c.start.result c.in_err-read_batch.field-0.0 c.start.ensures.value c.in_err-read_batch.ensures.read)
