use Rattle.job_board.proofs.OneBatch.{batch_not_both, batch_one_fault, batch_or_fault, one_batch}
use Rattle.job_board.proofs.laws.law_batch_text.Goals as goal

pub returns : goal.returns
returns c = record { one = batch_or_fault; not_both = batch_not_both; one_batch = one_batch; one_fault = batch_one_fault }
