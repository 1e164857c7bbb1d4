use Rattle.grow_core.proofs.Stepped.{left-invariant}
use Rattle.grow_core.proofs.laws.law_left_out.Goals as goal

pub returns : goal.returns
returns c = left-invariant
