use Rattle.std.proofs.Common.{take, flat_map, Ok}
use Rattle.tile_io.specs.declared.outside.Failed.{Failed}
use Rattle.tile_io.specs.Chunks.{PassesOn}
use Rattle.tile_text.proofs.PrintLemmas.{pair_line}
use Rattle.tile_text.proofs.print.put_pairs.Given as goal

-- the lines so far have been taken
abbrev pub invariant-loop-pair : goal.invariant-loop-pair
invariant-loop-pair g l =
    PassesOn {T = Unit {0}} {E = Failed} g.K.Sink.written g.K.Sink.faults l.initial.sink l.sink l.initial.chunk l.chunk (Ok tt)
    (flat_map (pair_line l.sys) (take l.pair-index l.pair-items))
