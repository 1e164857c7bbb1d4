use Rattle.std.proofs.Common.{◌≡◌, ◌+◌, ℕ, List, All, Result, IfOk, length, take}
use Rattle.assembly.specs.Grids.{TileGrid}
use Rattle.site_table.specs.Seats.{IsSeatOf, SeatValue}
use Rattle.grow_workers.specs.declared.leavings.Part.{Part}
use Rattle.grow_workers.specs.declared.starts.Start.{Start}
use Rattle.tile_system.specs.declared.memory.NoMemory.{NoMemory}
use Rattle.grow_workers.specs.Inner.Rounds.{IsFar}
use Rattle.grow_workers.specs.Inner.Sharing.{AreStartsOf, AreWorksOf, IsSeenPart}
use Rattle.grow_workers.proofs.Joined.{IsJoined}
use Rattle.grow_workers.proofs.joining.join.Given as goal

-- what the workers that were taken leave is joined
abbrev pub invariant-loop-part : goal.invariant-loop-part
invariant-loop-part g l = record {
  left : l.left.items ≡ take (length l.left.items) l.fn.done.items;
  count : length l.left.items + 1 + length l.team.others.items ≡ length l.fn.done.items;
  each : All (λ (d : Result Part NoMemory). IfOk d (IsSeenPart l.shared)) l.left.items;
  part : IsSeenPart l.shared l.team.part;
  far : (n : ℕ) → All (λ (d : Result Part NoMemory). IfOk d (λ part. IsFar l.shared.sys.now n part.grid)) l.fn.done.items → IsFar l.shared.sys.now n l.team.part.grid;
  grew : (old : SeatValue) (grid : TileGrid) (starts : List Start) → IsSeatOf l.shared.table.now old → AreStartsOf l.shared.sys.now old grid starts → AreWorksOf l.shared starts l.fn.done.items →
      IsJoined l.shared old grid starts (length l.left.items) l.team.part.seat l.team.part.grid l.team.part.won l.team.others.items;
}

abbrev pub decreases-loop-part : goal.decreases-loop-part
decreases-loop-part g l = length l.left.items
