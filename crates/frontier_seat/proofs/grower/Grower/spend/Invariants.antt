use Rattle.std.proofs.Common.{◌≡◌, ◌+◌, ◌-◌, ◌*◌, length}
use Rattle.assembly.specs.Cells.{cell_count}
use Rattle.assembly.specs.Rows.{IsRow}
use Rattle.number_set.specs.Numbers.{count_below}
use Rattle.frontier_seat.specs.Growths.{GrowsOn}
use Rattle.frontier_seat.specs.Inner.Looks.{CanLook, HasListed}
use Rattle.frontier_seat.proofs.grower.Grower.spend.Given as goal

-- what may be open is listed, and each claim that was made added a tile
abbrev pub invariant-loop-left : goal.invariant-loop-left
invariant-loop-left g l = record {
  can : CanLook l.lent l.self;
  goes : GrowsOn l.fn.self.growing l.self.growing;
  row : IsRow l.lent.area l.row;
  lists : HasListed l.lent.sys.now l.self;
  made : length l.self.growing.grid.tiles + l.left ≡ length l.fn.self.growing.grid.tiles + l.most;
  cost : l.steps + length l.fn.self.growing.grid.tiles ≡ l.fn.steps + length l.self.growing.grid.tiles;
}

-- the sites that are listed, and four for each tile that may come
abbrev pub decreases-loop-left : goal.decreases-loop-left
decreases-loop-left g l = 4 * (cell_count l.lent.sys.now.area - length l.self.growing.grid.tiles) + count_below l.self.work.numbers (cell_count l.lent.sys.now.area)
