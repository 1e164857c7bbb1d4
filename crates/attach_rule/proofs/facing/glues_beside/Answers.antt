use Rattle.std.proofs.Common.{rules}
use Rattle.attach_rule.proofs.Held.{facing_pull-pull}
use Rattle.attach_rule.proofs.facing.glues_beside.Goals as goal

pub returns-clause-pulls : goal.returns-clause-pulls
returns-clause-pulls g c = λ t. facing_pull-pull c.args.sys.now (g.P.Placed.placements c.args.placed.now) c.args.site _ t (search rules)
