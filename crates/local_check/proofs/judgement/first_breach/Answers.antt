use Rattle.local_check.proofs.Judging.{exact_all, no_rival_all}
use Rattle.local_check.proofs.judgement.first_breach.Goals as goal

pub returns : goal.returns
returns c sys s sides = (
  exact_all sys s c.args.sides.now.inexact c.in_default.ensures sides.inexact,
  no_rival_all sys s c.args.sides.now.rival c.in_default-rival.ensures sides.rival,
)
