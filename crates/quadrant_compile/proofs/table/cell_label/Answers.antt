use Rattle.quadrant_compile.proofs.Ruling.{pair_bounds}
use Rattle.quadrant_compile.proofs.table.cell_label.Goals as goal

pub answer-requires-clause-west : goal.answer-requires-clause-west
answer-requires-clause-west c = (pair_bounds c.args.quadrant.now c.requires.valid c.args.west c.args.south c.requires.kind).0

pub answer-requires-clause-south : goal.answer-requires-clause-south
answer-requires-clause-south c = (pair_bounds c.args.quadrant.now c.requires.valid c.args.west c.args.south c.requires.kind).1
