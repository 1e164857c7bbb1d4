use Rattle.std.proofs.Common.{◌≡◌, ◌≤◌, true, length, take}
use Rattle.atam.specs.Placements.{SamePlacements}
use Rattle.atam.specs.Growth.{IsLegal}
use Rattle.type_cache.specs.Clean.{AllCleanBelow}
use Rattle.local_check.specs.Inner.Ranges.{AllExactIn, FindsInexactIn}
use Rattle.local_check.specs.Inner.Glances.{AreGlances}
use Rattle.local_check.proofs.passage.pass.Given as goal

-- The places so far are legal, and they stand in the grid. The first of them that isn't held
-- exactly was found, and there is none where all are known to be legal. All of them came clean, if
-- that is said.
abbrev pub invariant-loop-index : goal.invariant-loop-index
invariant-loop-index g l = record {
  area : l.grid.area ≡ l.sys.area;
  seeded : length l.sys.seeds ≤ l.index;
  within : l.index ≤ length l.seq;
  legal : IsLegal l.sys (take l.index l.seq);
  placed : SamePlacements (take l.index l.seq) l.grid.tiles;
  known : AreGlances l.sys l.glances;
  inexact : FindsInexactIn l.sys l.seq 0 l.index l.breaches.inexact;
  exact : l.known ≡ true → AllExactIn l.sys l.seq 0 l.index;
  clean : l.clean ≡ true → AllCleanBelow l.sys l.seq l.index;
}
