use Rattle.std.proofs.Common.{◌≡◌, ◌≤◌, ◌+◌, ◌-◌, All, length}
use Rattle.atam.specs.Placements.{SamePlacements}
use Rattle.grow_workers.specs.declared.starts.Start.{Start}
use Rattle.grow_workers.specs.Inner.Sharing.{ArePartedOff, HasSeen, IsStart, start_grid}
use Rattle.grow_workers.specs.Inner.Wins.{HasNumbers}
use Rattle.grow_workers.proofs.starts.split_off.Given as goal

-- the workers so far have begun, and what is left of the seat suffices for the others
abbrev pub invariant-loop-worker : goal.invariant-loop-worker
invariant-loop-worker g l = record {
  some : 1 ≤ l.worker;
  few : l.worker ≤ l.shared.workers.count;
  numbers : HasNumbers (l.shared.workers.count - l.worker + 1) l.kept.scout.owned;
  seen : HasSeen l.shared l.kept l.fn.seen;
  parted : ArePartedOff l.fn.seat l.starts.items l.kept;
  grids : All (λ (start : Start). SamePlacements l.fn.seen.tiles (start_grid l.shared.sys.now start.seen).tiles) l.starts.items;
  each : All (IsStart l.shared) l.starts.items;
  count : length l.starts.items + 1 ≡ l.worker;
}
