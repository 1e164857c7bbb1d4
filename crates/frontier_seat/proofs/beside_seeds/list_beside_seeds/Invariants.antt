use Rattle.std.proofs.Common.{◌≡◌, take}
use Rattle.frontier_seat.specs.Inner.Fillings.{ListsBeside}
use Rattle.frontier_seat.specs.Inner.Listings.{AreEmptySites}
use Rattle.frontier_seat.proofs.beside_seeds.list_beside_seeds.Given as goal

-- the seeds so far
abbrev pub invariant-loop-seed : goal.invariant-loop-seed
invariant-loop-seed l = record {
  area : l.work.area ≡ l.fn.work.area;
  empty : AreEmptySites l.sys.area l.grid.tiles l.work.numbers;
  lists : ListsBeside l.sys.area l.grid.tiles l.work.numbers (take l.seed-index l.seed-items);
}
