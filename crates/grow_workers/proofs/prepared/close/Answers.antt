use Rattle.std.proofs.Common.{Some, subst}
use Rattle.site_table.specs.Rule.{IsPossible}
use Rattle.grow_workers.proofs.Whole.{log_left}
use Rattle.grow_workers.proofs.Winning.{grid_left, whole_growth}
use Rattle.grow_workers.proofs.prepared.close.Goals as goal

pub returns-clause-growth : goal.returns-clause-growth
returns-clause-growth c workers whole =
    let sys = c.args.table.sys in
    let seat = c.args.seat in
    let real : IsPossible sys seat.scout = subst (λ z. IsPossible z seat.scout) c.requires.seat.sys c.recall_possible.ensures.possible in
    whole_growth sys workers whole.start whole.old seat c.args.grid whole.wins c.close.result real.valid whole.owned whole.mine whole.grew whole.count whole.few c.recall_sites.ensures.distinct c.close.ensures

pub returns-clause-log : goal.returns-clause-log
returns-clause-log c log is =
    let sys = c.args.table.sys in
    let grid = c.args.grid in
    let left = grid_left sys c.args.seat grid c.close.result c.recall_sites.ensures.distinct c.requires.seen is.closed c.close.ensures in
    log_left sys grid c.close.result.grid.tiles (Some log) left is
