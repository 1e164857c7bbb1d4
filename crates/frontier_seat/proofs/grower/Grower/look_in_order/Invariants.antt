use Rattle.std.proofs.Common.{◌≡◌, ◌+◌, ◌-◌, ◌*◌, ◌^◌, true, length}
use Rattle.assembly.specs.Cells.{cell_count}
use Rattle.assembly.specs.Rows.{IsRow}
use Rattle.number_set.specs.Numbers.{count_below}
use Rattle.frontier_seat.specs.Growths.{GrowsOn}
use Rattle.frontier_seat.specs.Inner.Fillings.{GrewByLog}
use Rattle.frontier_seat.specs.Inner.Looks.{CanLook, HasListed}
use Rattle.frontier_seat.proofs.grower.Grower.look_in_order.Given as goal

-- what is listed is all that may be open, and what was claimed is logged
abbrev pub invariant-loop-number : goal.invariant-loop-number
invariant-loop-number g l = record {
  can : CanLook l.lent l.self;
  goes : GrowsOn l.fn.self.growing l.self.growing;
  row : IsRow l.lent.area l.row;
  lists : HasListed l.lent.sys.now l.self;
  order : l.log.in_order ≡ true → GrewByLog l.lent.sys.now l.self.growing.grid.tiles l.log;
  sole : l.fn.self.growing.seat.scout.owned ≡ 2 ^ 64 - 1 → l.fn.log.in_order ≡ true → l.log.in_order ≡ true;
  count : length l.log.numbers + length l.fn.self.growing.grid.tiles ≡ length l.self.growing.grid.tiles;
  room : l.log.room ≡ l.fn.log.room;
  cost : l.steps + length l.fn.self.growing.grid.tiles ≡ l.fn.steps + length l.self.growing.grid.tiles;
}

-- the sites that are listed, and four for each tile that may come
abbrev pub decreases-loop-number : goal.decreases-loop-number
decreases-loop-number g l = 4 * (cell_count l.lent.sys.now.area - length l.self.growing.grid.tiles) + count_below l.self.work.numbers (cell_count l.lent.sys.now.area)
