use Rattle.std.proofs.Common.{take, flat_map, Ok}
use Rattle.tile_io.specs.declared.outside.Failed.{Failed}
use Rattle.tile_io.specs.Chunks.{PassesOn}
use Rattle.tile_table.proofs.TableSpelled.{kind_text}
use Rattle.tile_table.proofs.print.put_kinds.Given as goal

-- the lines so far have been taken
abbrev pub invariant-loop-kind : goal.invariant-loop-kind
invariant-loop-kind g l =
    PassesOn {T = Unit {0}} {E = Failed} g.S.Sink.written g.S.Sink.faults l.initial.sink l.sink l.initial.chunk l.chunk (Ok tt)
    (flat_map (kind_text (g.T.Table.tiles l.table)) (take l.kind-index l.kinds))
