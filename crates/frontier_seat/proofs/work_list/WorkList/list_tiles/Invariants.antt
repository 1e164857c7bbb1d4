use Rattle.std.proofs.Common.{◌≡◌, ◌+◌, ◌*◌}
use Rattle.atam.specs.Sites.{width_of}
use Rattle.frontier_seat.specs.Inner.Listings.{AreEmptySites, ListsFrontierTo}
use Rattle.frontier_seat.proofs.work_list.WorkList.list_tiles.Given as goal

-- the tiles so far
abbrev pub invariant-loop-column : goal.invariant-loop-column
invariant-loop-column l = record {
  area : l.self.area ≡ l.fn.self.area;
  empty : AreEmptySites l.fn.self.area l.grid.tiles l.self.numbers;
  lists : ListsFrontierTo l.fn.self.area l.grid.tiles l.self.numbers (l.row * width_of l.fn.self.area + l.column);
}
