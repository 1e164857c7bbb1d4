use Rattle.unique_law.proofs.OneOutcome.{deterministic_full, one_full_growth, outcome_exists, one_outcome, yes_throughout, grows_into_outcome}
use Rattle.unique_law.proofs.Within.{outcome_by_placements}
use Rattle.unique_law.proofs.laws.law_one_outcome.Goals as goal

pub returns-clause-itself : goal.returns-clause-itself
returns-clause-itself c = λ sys s distinct found. deterministic_full sys distinct s found

pub returns-clause-exists : goal.returns-clause-exists
returns-clause-exists c = outcome_exists

pub returns-clause-placements : goal.returns-clause-placements
returns-clause-placements c = λ sys s tiles distinct found. one_full_growth sys distinct s tiles found.deterministic found.inside

pub returns-clause-outcome : goal.returns-clause-outcome
returns-clause-outcome c = outcome_by_placements

pub returns-clause-yes : goal.returns-clause-yes
returns-clause-yes c = λ sys a b o p distinct. one_outcome sys distinct a b o p

pub returns-clause-throughout : goal.returns-clause-throughout
returns-clause-throughout c = λ sys s tiles o distinct found. yes_throughout sys distinct s tiles o found.deterministic found.inside

pub returns-clause-grows : goal.returns-clause-grows
returns-clause-grows c = λ sys tiles b o distinct. grows_into_outcome sys distinct tiles b o
