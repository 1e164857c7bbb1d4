use Rattle.std.proofs.Common.{arith}
use Rattle.assembly.proofs.Filling.{filled_more}
use Rattle.assembly.proofs.grid.fill_gaps.Goals as goal

pub loop-index-preserved : goal.loop-index-preserved
loop-index-preserved c =
    filled_more c.loop-index.index c.cell_over.result c.args.cells.now c.args.other.now c.loop-index.cells c.loop-index.invariant (omega arith) c.cell_over.ensures
