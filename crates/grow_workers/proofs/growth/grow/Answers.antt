use Rattle.std.proofs.Common.{subst, sym, arith}
use Rattle.grow_workers.specs.Workers.{OwnsAtLeast}
use Rattle.grow_workers.proofs.Numbering.{owns_many}
use Rattle.grow_workers.proofs.Whole.{whole_of}
use Rattle.grow_workers.proofs.growth.grow.Goals as goal

pub grow_on-requires-clause-numbers : goal.grow_on-requires-clause-numbers
grow_on-requires-clause-numbers g c κs within =
    let few = c.requires.few in
    subst (OwnsAtLeast c.args.workers) (sym c.in_ok-table.ensures.scout.owned) (owns_many c.args.workers (omega (arith, few)))

pub returns : goal.returns
returns g c =
    let grew = c.in_ok-seat.ensures in
    whole_of c.args.sys.now c.in_ok-table.field-0 c.args.workers c.in_ok-seat.seat c.in_ok-seat.grid _ c.close.result c.in_ok-table.ensures grew.grew grew.count c.requires.few c.close.ensures.growth
