use Rattle.std.proofs.Common.{◌≡◌, ◌++◌, ℕ, List, drop, Ok}
use Rattle.tile_io.specs.declared.outside.Failed.{Failed}
use Rattle.tile_io.specs.Chunks.{PassesOn}
use Rattle.job_board.proofs.Printed.{answers_from}
use Rattle.job_board.proofs.printing.put_answers.Given as goal

-- the answers so far have been taken, and the others follow
abbrev pub invariant-loop-number : goal.invariant-loop-number
invariant-loop-number g l = record {
  printed : List ℕ;
  passes : PassesOn {T = Unit {0}} {E = Failed} g.K.Sink.written g.K.Sink.faults l.initial.sink l.sink l.initial.chunk l.chunk (Ok tt) printed;
  others : printed ++ answers_from l.number (drop l.number l.jobs) (drop l.number l.outcomes) ≡ answers_from 0 l.jobs l.outcomes;
}
