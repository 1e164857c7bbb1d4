use Rattle.std.proofs.Common.{None, Result, Ok}
use Rattle.std.proofs.lemmas.Result.{err_from_is_err_and}
use Rattle.atam.specs.declared.event.Seen.{Seen}
use Rattle.atam.specs.declared.event.Seen.TheVariants.{Saw}
use Rattle.atam.specs.declared.event.CoreStop.{CoreStop}
use Rattle.tile_io.proofs.Printing.{PassesOn-next, PassesOn-halted}
use Rattle.seq_text.specs.SeenLines.{seen_line}
use Rattle.seq_text.proofs.seen.put_replies.Goals as goal

-- what stands past the end of the answers
abbrev no_reply : Result Seen CoreStop
no_reply = Ok (Saw None)

pub returns-in_err-put_seen : goal.returns-in_err-put_seen
returns-in_err-put_seen g c =
    let p = err_from_is_err_and c.from_residual.result c.from_residual.ensures.1 in
    rw p.1 (PassesOn-halted (seen_line c.args.sys.now) c.args.replies.now c.loop-reply.reply-index no_reply c.loop-reply-test.true c.loop-reply.invariant c.in_err-put_seen.ensures)

pub loop-reply-preserved : goal.loop-reply-preserved
loop-reply-preserved g c =
    PassesOn-next (seen_line c.args.sys.now) c.args.replies.now c.loop-reply.reply-index no_reply c.loop-reply-test.true c.loop-reply.invariant c.in_ok-put_seen.ensures
