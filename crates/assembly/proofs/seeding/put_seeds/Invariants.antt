use Rattle.std.proofs.Common.{◌≡◌, take}
use Rattle.atam.specs.Placements.{SamePlacements}
use Rattle.assembly.proofs.seeding.put_seeds.Given as goal

-- the seeds so far stand in the grid
abbrev pub invariant-loop-seed : goal.invariant-loop-seed
invariant-loop-seed l = record {
  area : l.grid.area ≡ l.fn.sys.area;
  placed : SamePlacements (take l.seed-index l.seed-items) l.grid.tiles;
}
