use Rattle.local_check.proofs.Existence.{verdict_exists}
use Rattle.local_check.proofs.Verdicts.{verdict_unique}
use Rattle.local_check.proofs.laws.law_one_verdict.Goals as goal

pub returns-clause-exists : goal.returns-clause-exists
returns-clause-exists c = verdict_exists

pub returns-clause-unique : goal.returns-clause-unique
returns-clause-unique c = verdict_unique
