use Rattle.unique_law.proofs.OneOutcome.{matched}
use Rattle.unique_law.proofs.pairs.law_part.Goals as goal

pub returns : goal.returns
returns c = matched c.args.sys.now c.args.a.now c.args.b.now c.recall_valid.ensures.valid.distinct_seeds c.requires.deterministic c.requires.legal
