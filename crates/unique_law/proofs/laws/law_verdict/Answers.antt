use Rattle.atam.proofs.SameVerdict.{same_verdict}
use Rattle.unique_law.proofs.OneOutcome.{yes_in_some_order}
use Rattle.unique_law.proofs.laws.law_verdict.Goals as goal

pub returns-clause-placements : goal.returns-clause-placements
returns-clause-placements c = same_verdict

pub returns-clause-yes : goal.returns-clause-yes
returns-clause-yes c = λ sys tiles order v distinct. yes_in_some_order sys distinct tiles order v
