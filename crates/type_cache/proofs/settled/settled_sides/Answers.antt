use Rattle.type_cache.proofs.Settling.{all_settled}
use Rattle.type_cache.proofs.settled.settled_sides.Goals as goal

pub returns : goal.returns
returns c =
    all_settled c.args.sys.now c.args.tile c.args.bonds.now c.of.result c.is_settled.result c.is_settled-2.result c.is_settled-3.result c.is_settled-4.result c.of.ensures
    c.is_settled.ensures c.is_settled-2.ensures c.is_settled-3.ensures c.is_settled-4.ensures
