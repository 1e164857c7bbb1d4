use Rattle.quadrant_compile.proofs.Recurring.{met, east_once, north_once}
use Rattle.quadrant_compile.proofs.laws.law_recurrence.Goals as goal

pub returns-clause-met : goal.returns-clause-met
returns-clause-met c = λ q. met q

pub returns-clause-one : goal.returns-clause-one
returns-clause-one c = λ q e n is i j. (east_once q e n is i j, north_once q e n is j i)
