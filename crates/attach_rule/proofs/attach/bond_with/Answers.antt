use Rattle.attach_rule.proofs.Held.{bond_beside}
use Rattle.attach_rule.proofs.attach.bond_with.Goals as goal

pub returns-clause-value : goal.returns-clause-value
returns-clause-value c = λ tiles site there.
    bond_beside c.args.sys.now tiles site c.args.tile c.args.side c.opposite.result c.args.beside c.side-own.result c.glue_of-other.result c.interaction.result
    c.interaction.ensures.value c.side-own.ensures.glue c.glue_of-other.ensures c.opposite.ensures there
