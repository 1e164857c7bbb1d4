use Rattle.std.proofs.Common.{Option, subst}
use Rattle.atam.specs.declared.place.TypeId.{TypeId}
use Rattle.frontier_seat.specs.Inner.Looks.{IsOpenType}
use Rattle.frontier_seat.proofs.bursting.attaches.Goals as goal

pub returns-in-Some-clause-open : goal.returns-in-Some-clause-open
returns-in-Some-clause-open g c = record {
  tile = c.in-Some._tile;
  attaches = subst (λ (o : Option TypeId). IsOpenType c.args.sys.now c.args.growing.now.grid.tiles c.args.spot.site o) c.in-Some.is c.pick-found.ensures.open;
}
