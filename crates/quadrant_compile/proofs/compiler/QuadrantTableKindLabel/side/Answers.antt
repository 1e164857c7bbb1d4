use Rattle.quadrant_compile.proofs.Listed.{listed_kind}
use Rattle.quadrant_compile.proofs.compiler.QuadrantTableKindLabel.side.Goals as goal

pub label_on-requires-clause-kind : goal.label_on-requires-clause-kind
label_on-requires-clause-kind c = listed_kind c.args.self.now c.symbols.ensures.valid c.args.kind c.requires
