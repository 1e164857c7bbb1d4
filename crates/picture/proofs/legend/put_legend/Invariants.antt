use Rattle.std.proofs.Common.{take, flat_map, Ok}
use Rattle.std.specs.List.{range_with_len}
use Rattle.tile_io.specs.declared.outside.Failed.{Failed}
use Rattle.tile_io.specs.Chunks.{PassesOn}
use Rattle.picture.specs.Pictures.{is_standing}
use Rattle.picture.specs.Inner.Entries.{entry}
use Rattle.picture.proofs.legend.put_legend.Given as goal

-- the entries so far have been taken
abbrev pub invariant-loop-index : goal.invariant-loop-index
invariant-loop-index g l =
    PassesOn {T = Unit {0}} {E = Failed} g.K.Sink.written g.K.Sink.faults l.initial.sink l.sink l.initial.chunk l.chunk (Ok tt)
    (flat_map (λ t. entry l.sys (is_standing l.grid.tiles t) (record { 0 = t })) (take l.index (range_with_len 0 62)))
