use Rattle.turing_compile.proofs.Listed.{listed_label}
use Rattle.turing_compile.proofs.compiler.MachineTableKindLabel.add_label_name.Goals as goal

pub add_label_name-requires-clause-label : goal.add_label_name-requires-clause-label
add_label_name-requires-clause-label c = listed_label c.args.self.now c.states.ensures.valid c.args.label c.requires.listed
