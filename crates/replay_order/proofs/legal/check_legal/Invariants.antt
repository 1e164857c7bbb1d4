use Rattle.std.proofs.Common.{◌≡◌, ◌≤◌, length, take}
use Rattle.atam.specs.Placements.{SamePlacements}
use Rattle.atam.specs.Growth.{IsLegal}
use Rattle.replay_order.proofs.legal.check_legal.Given as goal

-- the places so far are legal, and they stand in the grid
abbrev pub invariant-loop-index : goal.invariant-loop-index
invariant-loop-index l = record {
  area : l.scratch.area ≡ l.sys.area;
  seeded : length l.sys.seeds ≤ l.index;
  within : l.index ≤ length l.seq;
  legal : IsLegal l.sys (take l.index l.seq);
  placed : SamePlacements (take l.index l.seq) l.scratch.tiles;
}
