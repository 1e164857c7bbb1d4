use Rattle.std.proofs.Common.{◌∙◌, not, sym, ap}
use Rattle.type_cache.proofs.Settling.{no_other_held, within_sides}
use Rattle.local_check.proofs.glances.Glances.is_clean.Goals as goal

pub returns-clause-settled : goal.returns-clause-settled
returns-clause-settled c said d in_set = c.settled_sides-settled.ensures d (within_sides c.args.beside c.settled_sides-settled.result (sym c.is_within.ensures ∙ c.if-not-is_within.false) d in_set)

pub returns-clause-sole : goal.returns-clause-sole
returns-clause-sole c said =
    no_other_held c.args.sys.now c.args.glues.now c.args.tile c.other_than-other.result (c.is_none.ensures ∙ ap not said)
    (c.other_than-other.ensures.held c.args.sys.now c.args.glues.now c.found.ensures.found)
