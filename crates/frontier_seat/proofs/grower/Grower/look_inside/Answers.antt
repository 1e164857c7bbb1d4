use Rattle.std.proofs.Common.{Option, subst}
use Rattle.atam.specs.declared.area.BoxArea.{BoxArea}
use Rattle.atam.specs.declared.place.TypeId.{TypeId}
use Rattle.frontier_seat.specs.declared.grower.Grower.{Grower}
use Rattle.frontier_seat.specs.Inner.Listings.{ListsAround}
use Rattle.frontier_seat.specs.Inner.Looks.{IsOpenType}
use Rattle.frontier_seat.proofs.Looked.{can_again, looked_at_none, looked_at_some, still_beside}
use Rattle.frontier_seat.proofs.grower.Grower.look_inside.Goals as goal

pub returns-clause-looks : goal.returns-clause-looks
returns-clause-looks g c =
    let before = c.args.self.now in
    let after : Grower = record { growing = c.claim-picked.new.self; picker = c.pick-tile.new.self; work = c.list_inner.new.self } in
    let around = subst (λ (a : BoxArea). ListsAround a after.growing.grid.tiles c.args.spot.site before.work.numbers after.work.numbers) c.requires.can.area c.list_inner.ensures.lists in
    looked_at_some c.args.lent.sys.now before after c.args.spot c.requires.taken c.claim-picked.ensures.claim.claim around

pub returns-in_default-clause-looks : goal.returns-in_default-clause-looks
returns-in_default-clause-looks g c =
    let sys = c.args.lent.sys.now in
    let none = subst (λ (o : Option TypeId). IsOpenType sys c.args.self.now.growing.grid.tiles c.args.spot.site o) c.in_default.is c.pick-tile.ensures.open in
    looked_at_none sys c.args.self.now c.pick-tile.new.self c.args.spot c.requires.taken none

pub returns-clause-can : goal.returns-clause-can
returns-clause-can g c =
    let after : Grower = record { growing = c.claim-picked.new.self; picker = c.pick-tile.new.self; work = c.list_inner.new.self } in
    let claim = c.claim-picked.ensures.claim.claim in
    can_again c.args.lent c.args.self.now after c.requires.can claim.goes claim.growing c.pick-tile.ensures.picker c.list_inner.ensures.area

pub returns-clause-tells : goal.returns-clause-tells
returns-clause-tells g c = record {
  claims = c.claim-picked.ensures.claim;
  clean = c.pick-tile.ensures.clean;
}

pub list_inner-requires-clause-beside : goal.list_inner-requires-clause-beside
list_inner-requires-clause-beside g c =
    still_beside c.args.lent.sys.now c.args.self.now.growing c.claim-picked.new.self c.args.spot.site c.beside_inner-beside.result c.claim-picked.ensures.claim.claim c.beside_inner-beside.ensures
