use Rattle.std.proofs.Common.{take, flat_map, Ok}
use Rattle.std.specs.List.{range_with_len}
use Rattle.atam.specs.Sites.{width_of}
use Rattle.tile_io.specs.declared.outside.Failed.{Failed}
use Rattle.tile_io.specs.Chunks.{PassesOn}
use Rattle.picture.proofs.Rows.{cell_text}
use Rattle.picture.proofs.picture.put_sites.Given as goal

-- the sites so far have been taken
abbrev pub invariant-loop-column : goal.invariant-loop-column
invariant-loop-column g l =
    PassesOn {T = Unit {0}} {E = Failed} g.K.Sink.written g.K.Sink.faults l.initial.sink l.sink l.initial.chunk l.chunk (Ok tt)
    (flat_map (cell_text l.grid l.row) (take l.column (range_with_len 0 (width_of l.grid.area))))
