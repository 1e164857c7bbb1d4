use Rattle.std.proofs.Common.{◌≡◌, ◌+◌, ◌-◌, ◌*◌, length}
use Rattle.assembly.specs.Cells.{cell_count}
use Rattle.assembly.specs.Rows.{IsRow}
use Rattle.number_set.specs.Numbers.{count_below}
use Rattle.frontier_seat.specs.Inner.Fillings.{CanFill, GrewSeen}
use Rattle.frontier_seat.specs.Inner.Looks.{ListsOpen}
use Rattle.frontier_seat.proofs.in_order.Filler.fill_all.Given as goal

-- what is listed is all that may be open, and what grew is logged
abbrev pub invariant-loop-number : goal.invariant-loop-number
invariant-loop-number g l = record {
  can : CanFill l.sys l.self;
  row : IsRow l.area l.row;
  lists : ListsOpen l.sys l.self.grid.tiles l.self.work.numbers;
  order : GrewSeen l.sys l.self.grid.tiles l.self.log.places l.self.log.clean;
  room : l.self.log.room ≡ l.fn.self.log.room;
}

-- the sites that are listed, and four for each tile that may come
abbrev pub decreases-loop-number : goal.decreases-loop-number
decreases-loop-number g l = 4 * (cell_count l.sys.area - length l.self.grid.tiles) + count_below l.self.work.numbers (cell_count l.sys.area)
