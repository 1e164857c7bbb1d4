use Rattle.std.proofs.Common.{subst}
use Rattle.atam.specs.declared.area.BoxArea.{BoxArea}
use Rattle.frontier_seat.specs.Inner.Listings.{IsClosedRow}
use Rattle.frontier_seat.proofs.ClosedRows.{frontier_closed}
use Rattle.frontier_seat.proofs.work_list.WorkList.list_row.Goals as goal

pub returns-then-is_closed_row-clause-lists : goal.returns-then-is_closed_row-clause-lists
returns-then-is_closed_row-clause-lists c =
    let tiles = c.args.grid.now.tiles in
    frontier_closed c.args.self.now.area tiles c.args.self.now.numbers c.args.row
    (subst (λ (a : BoxArea). IsClosedRow (record { area = a; tiles = tiles }) c.args.row) c.requires.area (c.is_closed_row.ensures c.if-is_closed_row.true)) c.requires.before
