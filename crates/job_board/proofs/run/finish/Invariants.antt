use Rattle.std.proofs.Common.{◌≡◌, ◌≤◌, length, take}
use Rattle.std.specs.Vec.{vec_capacity, vec_len}
use Rattle.job_board.specs.Answers.{AnswerEach}
use Rattle.job_board.proofs.run.finish.Given as goal

abbrev pub invariant-loop-number : goal.invariant-loop-number
invariant-loop-number g l = record {
  answered : AnswerEach (take l.number l.jobs) l.outcomes.items;
  count : vec_len l.outcomes ≡ l.number;
  room : length l.jobs ≤ vec_capacity l.outcomes;
  own : l.leavings.0 ≡ l.jobs;
}
