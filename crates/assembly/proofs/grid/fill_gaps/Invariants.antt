use Rattle.assembly.proofs.Filling.{IsFilledTo}
use Rattle.assembly.proofs.grid.fill_gaps.Given as goal

abbrev pub invariant-loop-index : goal.invariant-loop-index
invariant-loop-index l = IsFilledTo l.index l.initial.cells l.other l.cells
