use Rattle.grow_core.proofs.Start.{start-there}
use Rattle.grow_core.proofs.Answered.{answered}
use Rattle.grow_core.proofs.Unique.{one_reply}
use Rattle.grow_core.proofs.laws.law_answered.Goals as goal

pub returns-clause-start : goal.returns-clause-start
returns-clause-start c = start-there

pub returns-clause-events : goal.returns-clause-events
returns-clause-events c sys s event holds = answered sys s holds event

pub returns-clause-unique : goal.returns-clause-unique
returns-clause-unique c = one_reply
