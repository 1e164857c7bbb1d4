use Rattle.std.proofs.Common.{◌≡◌, ◌≤◌, length, take}
use Rattle.atam.specs.Placements.{SamePlacements}
use Rattle.local_check.proofs.grid_of.grid_of.Given as goal

-- the places so far stand in the grid
abbrev pub invariant-loop-index : goal.invariant-loop-index
invariant-loop-index l = record {
  area : l.grid.area ≡ l.sys.area;
  within : l.index ≤ length l.seq;
  placed : SamePlacements (take l.index l.seq) l.grid.tiles;
}
