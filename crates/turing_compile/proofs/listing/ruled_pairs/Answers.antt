use Rattle.turing_compile.proofs.Listed.{pair_below}
use Rattle.turing_compile.proofs.listing.ruled_pairs.Goals as goal

pub rule-requires-clause-state : goal.rule-requires-clause-state
rule-requires-clause-state c = (pair_below c.args.machine.now c.states.ensures.valid c.args.all.now c.loop-state.state-index c.requires c.loop-state-test.true).0

pub rule-requires-clause-symbol : goal.rule-requires-clause-symbol
rule-requires-clause-symbol c = (pair_below c.args.machine.now c.states.ensures.valid c.args.all.now c.loop-state.state-index c.requires c.loop-state-test.true).1
