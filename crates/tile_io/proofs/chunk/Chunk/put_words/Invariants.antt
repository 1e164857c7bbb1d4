use Rattle.std.proofs.Common.{take, flat_map, ◌∷◌, Ok}
use Rattle.tile_io.specs.declared.outside.Failed.{Failed}
use Rattle.tile_io.specs.Chunks.{PassesOn}
use Rattle.tile_io.proofs.chunk.Chunk.put_words.Given as goal

-- the words so far have been taken
abbrev pub invariant-loop-word : goal.invariant-loop-word
invariant-loop-word g l =
    PassesOn {T = Unit {0}} {E = Failed} g.K.Sink.written g.K.Sink.faults l.initial.sink l.sink l.initial.self l.self (Ok tt)
    (flat_map (λ word. 32 ∷ word.now) (take l.word-index l.words))
