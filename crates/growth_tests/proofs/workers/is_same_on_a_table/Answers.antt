use Rattle.std.proofs.Common.{subst, sym, arith}
use Rattle.grow_workers.specs.Workers.{OwnsAtLeast}
use Rattle.grow_workers.proofs.Numbering.{owns_many}
use Rattle.growth_tests.proofs.workers.is_same_on_a_table.Goals as goal

pub grow_on-requires-clause-numbers : goal.grow_on-requires-clause-numbers
grow_on-requires-clause-numbers g c κs within =
    let few = c.requires.few in
    subst (OwnsAtLeast c.args.workers) (sym c.in_ok-table.ensures.scout.owned) (owns_many c.args.workers (omega (arith, few)))
