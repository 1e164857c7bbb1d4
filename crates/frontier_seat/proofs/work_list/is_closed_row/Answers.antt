use Rattle.std.proofs.Common.{◌≡◌, ◌+◌, ◌-◌, subst, arith}
use Rattle.atam.specs.Sites.{IsBox}
use Rattle.frontier_seat.proofs.ClosedRows.{closed_full}
use Rattle.frontier_seat.proofs.work_list.is_closed_row.Goals as goal

pub returns : goal.returns
returns c last =
    let row = c.args.row in
    let some = c.if-row-eq0.false in
    let next : row ≡ row - 1 + 1 = omega (arith, some) in
    closed_full c.args.grid.now row (row - 1) (subst IsBox c.area-area.ensures.area c.area-area.ensures.box_limits) next
    (c.is_row_full-2.ensures.0 c.if-not-is_row_full-2.false) (c.is_row_full.ensures.0 c.if-not-is_row_full.false) (c.is_row_full-3.ensures.0 last)
