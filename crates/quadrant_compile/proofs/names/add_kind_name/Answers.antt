use Rattle.std.proofs.Common.{subst}
use Rattle.quadrant_compile.specs.Inner.Members.{IsKind}
use Rattle.quadrant_compile.proofs.Ruling.{pair_bounds}
use Rattle.quadrant_compile.proofs.names.add_kind_name.Goals as goal

pub add_paired-requires-clause-west : goal.add_paired-requires-clause-west
add_paired-requires-clause-west c = (pair_bounds c.args.quadrant.now c.requires.valid c.in-Cell.west c.in-Cell.south (subst (IsKind c.args.quadrant.now) c.in-Cell.is c.requires.kind)).0

pub add_paired-requires-clause-south : goal.add_paired-requires-clause-south
add_paired-requires-clause-south c = (pair_bounds c.args.quadrant.now c.requires.valid c.in-Cell.west c.in-Cell.south (subst (IsKind c.args.quadrant.now) c.in-Cell.is c.requires.kind)).1
