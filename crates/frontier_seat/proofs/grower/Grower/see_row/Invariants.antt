use Rattle.frontier_seat.specs.Inner.Looks.{CanLook, CatchesUp}
use Rattle.frontier_seat.proofs.grower.Grower.see_row.Given as goal

abbrev pub invariant-loop-column : goal.invariant-loop-column
invariant-loop-column l = record {
  catches : CatchesUp l.lent.sys.now l.fn.self l.self;
  can : CanLook l.lent l.self;
}
