use Rattle.std.proofs.Common.{subst, Option, IfSome}
use Rattle.grow_workers.specs.declared.ordered.SeenOrder.{SeenOrder}
use Rattle.grow_workers.specs.Workers.{IsSeenOrder}
use Rattle.tilebench.proofs.Orders.{canonical_whole}
use Rattle.tilebench.proofs.order.known_or_found_order.Goals as goal

-- the order that was known
pub returns-in-Some-clause-order : goal.returns-in-Some-clause-order
returns-in-Some-clause-order g c =
    let sys = c.args.sys.now in
    let tiles = c.args.grid.now.tiles in
    let known = subst (λ (o : Option SeenOrder). IfSome o (IsSeenOrder sys tiles)) c.in-Some.is c.requires.known in
    canonical_whole sys tiles c.in-Some.seen.order c.recall_valid.ensures.valid.distinct_seeds c.recall_sites.ensures.distinct c.requires.fits c.requires.producible known.canonical

pub returns-in-Some-clause-clean : goal.returns-in-Some-clause-clean
returns-in-Some-clause-clean g c said =
    (subst (λ (o : Option SeenOrder). IfSome o (IsSeenOrder c.args.sys.now c.args.grid.now.tiles)) c.in-Some.is c.requires.known).clean said
