use Rattle.std.proofs.Common.{None, sym}
use Rattle.atam.proofs.Open.{least_open_same}
use Rattle.local_check.specs.Inner.Verdicts.{FindsBreach}
use Rattle.local_check.proofs.FullBoxes.{least_open-closed}
use Rattle.local_check.proofs.Judging.{one_map}
use Rattle.local_check.proofs.grown.judge_grown.Goals as goal

pub breach_by-requires-clause-can : goal.breach_by-requires-clause-can
breach_by-requires-clause-can g c κs within =
    let grown = c.requires.grown in
    record {
      valid = c.recall_valid.ensures.valid;
      legal = grown.legal;
      fits = grown.fits;
      area = grown.area;
      placements = grown.placements;
      index = grown.index;
    }

pub returns-in-None : goal.returns-in-None
returns-in-None g c =
    let sys = c.args.laid.now.sys.now in
    let s = c.args.laid.now.seq.now in
    let tiles = c.args.laid.now.grid.now.tiles in
    let grown = c.requires.grown in
    let held : FindsBreach sys s None = rw c.in-None.is at c.in_ok-breach.ensures in
    let same = one_map sys s tiles c.recall_valid.ensures.valid.distinct_seeds grown.legal grown.placements in
    c.verdict_by.ensures sys s grown.legal held.0 held.1
    (least_open_same sys tiles s (λ m. Unit {0}) c.args.outside (λ m. sym (same m))
    (least_open-closed sys tiles grown.closed c.args.outside grown.least))
