use Rattle.std.proofs.Common.{take, Ok}
use Rattle.tile_io.specs.declared.outside.Failed.{Failed}
use Rattle.tile_io.specs.Chunks.{PassesOn}
use Rattle.seq_text.specs.SeenLines.{seen_lines}
use Rattle.seq_text.proofs.seen.put_replies.Given as goal

-- the lines so far have been taken
abbrev pub invariant-loop-reply : goal.invariant-loop-reply
invariant-loop-reply g l =
    PassesOn {T = Unit {0}} {E = Failed} g.K.Sink.written g.K.Sink.faults l.initial.sink l.sink l.initial.chunk l.chunk (Ok tt)
    (seen_lines l.sys (take l.reply-index l.replies))
