use Rattle.grow_core.proofs.Stepped.{refused-same}
use Rattle.grow_core.proofs.laws.law_refused.Goals as goal

pub returns : goal.returns
returns c = refused-same
