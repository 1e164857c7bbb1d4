use Rattle.std.proofs.Common.{take, flat_map, Ok}
use Rattle.tile_io.specs.declared.outside.Failed.{Failed}
use Rattle.tile_io.specs.Chunks.{PassesOn}
use Rattle.tilebench.specs.Inner.Races.{win_line}
use Rattle.tilebench.proofs.commands.race.put_wins.Given as goal

-- the lines so far have been taken
abbrev pub invariant-loop-win : goal.invariant-loop-win
invariant-loop-win g l =
    PassesOn {T = Unit {0}} {E = Failed} g.K.Sink.written g.K.Sink.faults l.initial.sink l.sink l.initial.chunk l.chunk (Ok tt)
    (flat_map win_line (take l.win-index l.wins))
