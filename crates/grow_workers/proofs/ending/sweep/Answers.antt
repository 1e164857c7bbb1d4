use Rattle.std.proofs.Common.{subst}
use Rattle.frontier_seat.specs.declared.growing.Growing.{Growing}
use Rattle.frontier_seat.specs.Growths.{GrowsOn}
use Rattle.grow_workers.proofs.ending.sweep.Goals as goal

pub returns-clause-goes : goal.returns-clause-goes
returns-clause-goes g c =
    let before : Growing = record { seat = c.args.seat; grid = c.args.seen; won = 0 } in
    subst (GrowsOn before) c.part_of.ensures.part (subst (λ (s : Growing). GrowsOn s c.sweep_counted.new.scout) c.in_ok-scout.ensures c.sweep_counted.ensures.goes)
