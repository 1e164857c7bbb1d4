use Rattle.atam.proofs.SameVerdict.{same_verdict}
use Rattle.unique_law.proofs.pairs.law_same_verdict.Goals as goal

pub returns : goal.returns
returns c = same_verdict c.args.sys.now c.args.a.now c.args.b.now c.recall_valid.ensures.valid.distinct_seeds c.requires.first c.requires.second c.requires.same
