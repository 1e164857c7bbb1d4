use Rattle.std.proofs.Common.{arith, ◌∙◌}
use Rattle.std.proofs.lemmas.List.{take_more}
use Rattle.job_board.specs.Answers.{Answers}
use Rattle.job_board.proofs.Outcomes.{AllZip-more}
use Rattle.job_board.proofs.run.finish.Goals as goal

pub loop-number-preserved : goal.loop-number-preserved
loop-number-preserved g c = record {
  answered =
      rw (take_more c.args.jobs.now c.loop-number.number c.index-jobs-number.result (omega arith), ← c.index-jobs-number.is, c.push_reserved.ensures.items) (
      AllZip-more (λ job outcome. Answers job.sys outcome) _ _ c.index-jobs-number.result c.in_ok-outcome.outcome c.loop-number.invariant.answered c.in_ok-outcome.ensures.answers
      );
  count = omega arith;
  room = omega arith;
  own = c.outcome_at.ensures.jobs ∙ c.loop-number.invariant.own;
}
