use Rattle.turing_compile.proofs.MachineFacts.{pair_bounds}
use Rattle.turing_compile.proofs.table.action_label.Goals as goal

pub rule-requires-clause-state : goal.rule-requires-clause-state
rule-requires-clause-state c = (pair_bounds c.args.machine.now c.requires.valid c.args.state c.args.symbol c.requires.kind).0

pub rule-requires-clause-symbol : goal.rule-requires-clause-symbol
rule-requires-clause-symbol c = (pair_bounds c.args.machine.now c.requires.valid c.args.state c.args.symbol c.requires.kind).1
