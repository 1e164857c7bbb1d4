use Rattle.local_check.proofs.Clean.{clean_no_rivals}
use Rattle.local_check.proofs.grown.breach_by.Goals as goal

pub returns-then-clean : goal.returns-then-clean
returns-then-clean g c =
    let can = c.requires.can in
    let came = c.requires.clean c.if-clean.true in (
      came.exact,
      clean_no_rivals c.args.laid.now.sys.now c.args.laid.now.seq.now can.valid.distinct_seeds
          can.legal came.clean,
    )
