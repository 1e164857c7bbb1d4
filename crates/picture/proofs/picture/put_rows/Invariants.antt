use Rattle.std.proofs.Common.{take, flat_map, reverse, Ok}
use Rattle.std.specs.List.{range_with_len}
use Rattle.atam.specs.Sites.{height_of}
use Rattle.tile_io.specs.declared.outside.Failed.{Failed}
use Rattle.tile_io.specs.Chunks.{PassesOn}
use Rattle.picture.specs.Pictures.{row_line}
use Rattle.picture.proofs.picture.put_rows.Given as goal

-- the rows so far have been taken
abbrev pub invariant-loop-index : goal.invariant-loop-index
invariant-loop-index g l =
    PassesOn {T = Unit {0}} {E = Failed} g.K.Sink.written g.K.Sink.faults l.initial.sink l.sink l.initial.chunk l.chunk (Ok tt)
    (flat_map (row_line l.grid) (take l.index (reverse (range_with_len 0 (height_of l.grid.area)))))
