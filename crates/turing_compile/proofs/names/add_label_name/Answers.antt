use Rattle.std.proofs.Common.{subst}
use Rattle.turing_compile.specs.Inner.Members.{IsLabel}
use Rattle.turing_compile.proofs.MachineFacts.{pair_bounds}
use Rattle.turing_compile.proofs.names.add_label_name.Goals as goal

pub add_paired-requires-clause-state : goal.add_paired-requires-clause-state
add_paired-requires-clause-state c =
    (pair_bounds c.args.machine.now c.requires.valid c.in-Acting.state c.in-Acting.symbol (subst (IsLabel c.args.machine.now) c.in-Acting.is c.requires.label)).0

pub add_paired-requires-clause-symbol : goal.add_paired-requires-clause-symbol
add_paired-requires-clause-symbol c =
    (pair_bounds c.args.machine.now c.requires.valid c.in-Acting.state c.in-Acting.symbol (subst (IsLabel c.args.machine.now) c.in-Acting.is c.requires.label)).1
