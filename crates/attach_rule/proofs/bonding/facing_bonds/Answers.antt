use Rattle.std.proofs.Common.{◌∙◌, ap}
use Rattle.atam.specs.Assembly.{interaction}
use Rattle.attach_rule.proofs.Held.{bonds_facing}
use Rattle.attach_rule.proofs.bonding.facing_bonds.Goals as goal

-- each side's glue is looked up, and meets the one that faces it
pub returns-clause-bonds : goal.returns-clause-bonds
returns-clause-bonds c = λ tiles m faces.
    let sys = c.args.sys.now in
    let facing = c.args.glues.now in
    bonds_facing sys tiles m facing c.args.tile _ faces
    (c.interaction.ensures.value ∙ ap (λ own. interaction sys own facing.north) c.side.ensures.glue)
    (c.interaction-2.ensures.value ∙ ap (λ own. interaction sys own facing.east) c.side-2.ensures.glue)
    (c.interaction-3.ensures.value ∙ ap (λ own. interaction sys own facing.south) c.side-3.ensures.glue)
    (c.interaction-4.ensures.value ∙ ap (λ own. interaction sys own facing.west) c.side-4.ensures.glue)
