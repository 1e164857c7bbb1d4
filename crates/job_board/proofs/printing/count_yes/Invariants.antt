use Rattle.std.proofs.Common.{◌≡◌, ◌≤◌, take, length, filter}
use Rattle.job_board.proofs.printing.count_yes.Given as goal
use Rattle.job_board.specs.AnswerText.{is_unique}

-- those so far, which are no more than the outcomes so far
abbrev pub invariant-loop-outcome : goal.invariant-loop-outcome
invariant-loop-outcome l = record {
  counted : l.count ≡ length (filter (λ outcome. is_unique outcome.verdict) (take l.outcome-index l.outcomes));
  few : l.count ≤ l.outcome-index;
}
