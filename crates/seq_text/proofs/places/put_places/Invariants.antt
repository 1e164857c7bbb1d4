use Rattle.std.proofs.Common.{◌≡◌, take, Ok}
use Rattle.tile_io.specs.declared.outside.Failed.{Failed}
use Rattle.tile_io.specs.Chunks.{PassesOn}
use Rattle.seq_text.specs.GrowthLines.{place_lines}
use Rattle.seq_text.proofs.places.put_places.Given as goal

-- the lines so far have been taken
abbrev pub invariant-loop-index : goal.invariant-loop-index
invariant-loop-index g l = record {
  same : l.pieces ≡ l.initial.pieces;
  passes : PassesOn {T = Unit {0}} {E = Failed} g.K.Sink.written g.K.Sink.faults l.initial.sink l.sink l.initial.chunk l.chunk (Ok tt)
      (place_lines l.initial.pieces (take l.index l.places));
}
