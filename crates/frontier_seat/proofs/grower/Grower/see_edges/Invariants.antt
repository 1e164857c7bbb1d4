use Rattle.frontier_seat.specs.Inner.Looks.{CanLook, CatchesUp}
use Rattle.frontier_seat.proofs.grower.Grower.see_edges.Given as goal

abbrev pub invariant-loop-row : goal.invariant-loop-row
invariant-loop-row l = record {
  catches : CatchesUp l.lent.sys.now l.fn.self l.self;
  can : CanLook l.lent l.self;
}
