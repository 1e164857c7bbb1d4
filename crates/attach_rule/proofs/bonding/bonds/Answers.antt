use Rattle.attach_rule.proofs.Held.{sum_pull}
use Rattle.attach_rule.proofs.bonding.bonds.Goals as goal

pub returns-clause-pull : goal.returns-clause-pull
returns-clause-pull g c =
    let tiles = g.P.Placed.placements c.args.placed.now in
    sum_pull c.args.sys.now tiles c.args.site c.args.tile _ (c.facing_bonds.ensures.bonds tiles c.args.site c.glues_facing-glues.ensures.faces)
