use Rattle.turing_compile.proofs.Listed.{listed_kind}
use Rattle.turing_compile.proofs.compiler.MachineTableKindLabel.side.Goals as goal

pub label_on-requires-clause-kind : goal.label_on-requires-clause-kind
label_on-requires-clause-kind c = listed_kind c.args.self.now c.states.ensures.valid c.args.kind c.requires
