use Rattle.std.proofs.Common.{subst}
use Rattle.frontier_seat.specs.declared.growing.Growing.{Growing}
use Rattle.grow_workers.specs.Inner.Sharing.{IsLogOf}
use Rattle.grow_workers.proofs.Winning.{scout_grew}
use Rattle.grow_workers.proofs.in_order.sweep_counted.Goals as goal

pub returns-clause-grew : goal.returns-clause-grew
returns-clause-grew g c =
    scout_grew c.args.shared.now.sys.now c.args.seat c.args.seen c.in_ok-scout.scout c.sweep_in_order.new.self c.part_of.result c.in_ok-scout.ensures c.part_of.ensures.part
    c.requires.seen.area c.sweep_in_order.ensures.goes c.part_of.ensures.seen

pub returns-clause-log : goal.returns-clause-log
returns-clause-log g c =
    let sys = c.args.shared.now.sys.now in
    let log = c.sweep_in_order.new.log in
    let sweep = c.sweep_in_order.ensures in
    subst (λ (h : Growing). IsLogOf sys h.grid log) c.part_of.ensures.part (record { closed = sweep.closed; orders = record { order = sweep.order; clean = sweep.clean } })
