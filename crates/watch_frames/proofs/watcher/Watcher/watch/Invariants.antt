use Rattle.std.proofs.Common.{◌≡◌, length}
use Rattle.site_table.specs.Seats.{GoesOn}
use Rattle.watch_frames.proofs.watcher.Watcher.watch.Given as goal

-- so many frames were taken
abbrev pub invariant-loop-frame : goal.invariant-loop-frame
invariant-loop-frame g l = record {
  goes : GoesOn l.fn.self.seat l.watcher.seat;
  mine : l.watcher.seat.scout.mine ≡ l.fn.self.seat.scout.mine;
  taken : length l.watcher.frames.counts ≡ l._frame;
  many : l.watcher.many ≡ l.fn.self.many;
}
