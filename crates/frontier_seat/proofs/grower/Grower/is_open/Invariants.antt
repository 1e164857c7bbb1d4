use Rattle.std.proofs.Common.{◌≡◌}
use Rattle.assembly.specs.Cells.{cell_count}
use Rattle.assembly.specs.Rows.{IsRow}
use Rattle.number_set.specs.Numbers.{count_below}
use Rattle.frontier_seat.specs.Inner.Looks.{CanLook, HasListed}
use Rattle.frontier_seat.proofs.grower.Grower.is_open.Given as goal

-- what may be open is listed
abbrev pub invariant-loop-number : goal.invariant-loop-number
invariant-loop-number g l = record {
  can : CanLook l.lent l.self;
  same : l.self.growing ≡ l.fn.self.growing;
  row : IsRow l.lent.area l.row;
  lists : HasListed l.lent.sys.now l.self;
}

-- the sites that are listed
abbrev pub decreases-loop-number : goal.decreases-loop-number
decreases-loop-number g l = count_below l.self.work.numbers (cell_count l.lent.sys.now.area)
