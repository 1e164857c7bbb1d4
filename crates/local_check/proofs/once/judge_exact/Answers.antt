use Rattle.local_check.proofs.Clean.{clean_no_rivals}
use Rattle.local_check.proofs.once.judge_exact.Goals as goal

pub last_verdict-requires-clause-rivals : goal.last_verdict-requires-clause-rivals
last_verdict-requires-clause-rivals c =
    let can = c.requires.can in
    clean_no_rivals c.args.laid.now.sys.now c.args.laid.now.seq.now can.valid.distinct_seeds can.legal
    (c.requires.clean c.if-clean.true)
