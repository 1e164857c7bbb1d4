use Rattle.grow_core.proofs.Stepped.{quiet, tiles-stay}
use Rattle.grow_core.proofs.laws.law_quiet.Goals as goal

pub returns-clause-whole : goal.returns-clause-whole
returns-clause-whole c sys s name v holds here closed = quiet sys s.tiles v holds.growth.history (holds.growth.each name v here) closed

pub returns-clause-last : goal.returns-clause-last
returns-clause-last c = tiles-stay
