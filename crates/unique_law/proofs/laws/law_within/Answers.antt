use Rattle.unique_law.proofs.OneOutcome.{deterministic_within}
use Rattle.unique_law.proofs.Within.{matched_within, grows_within, within_full, full_growth_within, one_outcome_within, grows_into_outcome_within, within_in_its_order, within_in_some_order, within_throughout, names_site_outside, conditions_by_placements}
use Rattle.unique_law.proofs.laws.law_within.Goals as goal

pub returns-clause-deterministic : goal.returns-clause-deterministic
returns-clause-deterministic c = deterministic_within

pub returns-clause-part : goal.returns-clause-part
returns-clause-part c = λ sys a b distinct. matched_within sys distinct a b

pub returns-clause-grows : goal.returns-clause-grows
returns-clause-grows c = λ sys a b distinct. grows_within sys distinct a b

pub returns-clause-itself : goal.returns-clause-itself
returns-clause-itself c = λ sys s distinct. within_full sys distinct s

pub returns-clause-placements : goal.returns-clause-placements
returns-clause-placements c = λ sys s tiles distinct. full_growth_within sys distinct s tiles

pub returns-clause-outcome : goal.returns-clause-outcome
returns-clause-outcome c = λ sys a b o p distinct. one_outcome_within sys distinct a b o p

pub returns-clause-grows_into_outcome : goal.returns-clause-grows_into_outcome
returns-clause-grows_into_outcome c = λ sys tiles b o distinct of_tiles. grows_into_outcome_within sys distinct tiles o of_tiles b

pub returns-clause-its_order : goal.returns-clause-its_order
returns-clause-its_order c = λ sys tiles o distinct. within_in_its_order sys distinct tiles o

pub returns-clause-some_order : goal.returns-clause-some_order
returns-clause-some_order c = λ sys tiles o distinct. within_in_some_order sys distinct tiles o

pub returns-clause-throughout : goal.returns-clause-throughout
returns-clause-throughout c = λ sys s tiles o distinct within of_tiles. within_throughout sys distinct tiles o of_tiles s within

pub returns-clause-outside : goal.returns-clause-outside
returns-clause-outside c = λ sys tiles o m t distinct of_tiles. names_site_outside sys distinct tiles o of_tiles m t

pub returns-clause-conditions : goal.returns-clause-conditions
returns-clause-conditions c = λ sys a b distinct. conditions_by_placements sys distinct a b
