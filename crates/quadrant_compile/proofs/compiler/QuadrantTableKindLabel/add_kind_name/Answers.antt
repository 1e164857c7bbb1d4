use Rattle.quadrant_compile.proofs.Listed.{listed_kind}
use Rattle.quadrant_compile.proofs.compiler.QuadrantTableKindLabel.add_kind_name.Goals as goal

pub add_kind_name-requires-clause-kind : goal.add_kind_name-requires-clause-kind
add_kind_name-requires-clause-kind c = listed_kind c.args.self.now c.symbols.ensures.valid c.args.kind c.requires.listed
