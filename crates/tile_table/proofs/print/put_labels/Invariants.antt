use Rattle.std.proofs.Common.{take, flat_map, Ok}
use Rattle.tile_io.specs.declared.outside.Failed.{Failed}
use Rattle.tile_io.specs.Chunks.{PassesOn}
use Rattle.tile_table.proofs.TableSpelled.{label_text}
use Rattle.tile_table.proofs.print.put_labels.Given as goal

-- the lines so far have been taken
abbrev pub invariant-loop-label : goal.invariant-loop-label
invariant-loop-label g l =
    PassesOn {T = Unit {0}} {E = Failed} g.S.Sink.written g.S.Sink.faults l.initial.sink l.sink l.initial.chunk l.chunk (Ok tt)
    (flat_map (label_text (g.T.Table.tiles l.table)) (take l.label-index l.labels))
