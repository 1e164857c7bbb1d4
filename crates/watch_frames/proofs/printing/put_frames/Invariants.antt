use Rattle.std.proofs.Common.{◌≡◌, take, flat_map, Ok}
use Rattle.tile_io.specs.declared.outside.Failed.{Failed}
use Rattle.tile_io.specs.Chunks.{PassesOn}
use Rattle.watch_frames.specs.Inner.Spans.{span_lines, spans}
use Rattle.watch_frames.proofs.FrameSpans.{told_before}
use Rattle.watch_frames.proofs.printing.put_frames.Given as goal

-- the lines of the frames so far have been taken
abbrev pub invariant-loop-index : goal.invariant-loop-index
invariant-loop-index g l = record {
  same : l.pieces ≡ l.initial.pieces;
  passes : PassesOn {T = Unit {0}} {E = Failed} g.K.Sink.written g.K.Sink.faults l.initial.sink l.sink l.initial.chunk l.chunk (Ok tt)
      (flat_map (span_lines l.initial.pieces l.frames.places) (take l.index (spans l.frames.counts)));
  before : l.before ≡ told_before 0 l.frames.counts l.index;
}
