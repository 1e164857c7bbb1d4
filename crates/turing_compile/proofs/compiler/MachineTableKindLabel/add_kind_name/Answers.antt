use Rattle.turing_compile.proofs.Listed.{listed_kind}
use Rattle.turing_compile.proofs.compiler.MachineTableKindLabel.add_kind_name.Goals as goal

pub add_kind_name-requires-clause-kind : goal.add_kind_name-requires-clause-kind
add_kind_name-requires-clause-kind c = listed_kind c.args.self.now c.states.ensures.valid c.args.kind c.requires.listed
