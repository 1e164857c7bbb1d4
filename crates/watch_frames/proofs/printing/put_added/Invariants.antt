use Rattle.std.proofs.Common.{◌≡◌, take, drop, ◌-◌, Ok}
use Rattle.tile_io.specs.declared.outside.Failed.{Failed}
use Rattle.tile_io.specs.Chunks.{PassesOn}
use Rattle.seq_text.specs.GrowthLines.{place_lines}
use Rattle.watch_frames.proofs.printing.put_added.Given as goal

-- the lines so far have been taken
abbrev pub invariant-loop-j : goal.invariant-loop-j
invariant-loop-j g l = record {
  same : l.pieces ≡ l.initial.pieces;
  passes : PassesOn {T = Unit {0}} {E = Failed} g.K.Sink.written g.K.Sink.faults l.initial.sink l.sink l.initial.chunk l.chunk (Ok tt)
      (place_lines l.initial.pieces (take (l.j - l.before) (drop l.before (take l.count l.frames.places))));
}
