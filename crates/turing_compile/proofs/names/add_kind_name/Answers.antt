use Rattle.std.proofs.Common.{subst}
use Rattle.turing_compile.specs.Inner.Members.{IsKind}
use Rattle.turing_compile.proofs.MachineFacts.{pair_bounds}
use Rattle.turing_compile.proofs.names.add_kind_name.Goals as goal

pub add_paired-requires-clause-state : goal.add_paired-requires-clause-state
add_paired-requires-clause-state c =
    (pair_bounds c.args.machine.now c.requires.valid c.in-Action.state c.in-Action.symbol (subst (IsKind c.args.machine.now) c.in-Action.is c.requires.kind)).0

pub add_paired-requires-clause-symbol : goal.add_paired-requires-clause-symbol
add_paired-requires-clause-symbol c =
    (pair_bounds c.args.machine.now c.requires.valid c.in-Action.state c.in-Action.symbol (subst (IsKind c.args.machine.now) c.in-Action.is c.requires.kind)).1
