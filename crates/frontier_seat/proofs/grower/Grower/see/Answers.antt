use Rattle.std.proofs.Common.{◌≡◌, ◌∙◌, None, ap, sym, subst}
use Rattle.atam.specs.declared.area.BoxArea.{BoxArea}
use Rattle.atam.specs.Sites.{InBox}
use Rattle.atam.specs.Placements.{tile_at}
use Rattle.atam.proofs.Boxes.{near_inside}
use Rattle.assembly.specs.Cells.{site_at}
use Rattle.frontier_seat.specs.declared.grower.Grower.{Grower}
use Rattle.frontier_seat.specs.declared.growing.Growing.{Growing}
use Rattle.frontier_seat.specs.Inner.Listings.{ListsAround, IsSpot}
use Rattle.frontier_seat.specs.Inner.Looks.{CanLook, CatchesUp}
use Rattle.frontier_seat.proofs.Looked.{can_again, caught_none, caught_up}
use Rattle.frontier_seat.proofs.grower.Grower.see.Goals as goal

pub returns-then-see-clause-catches : goal.returns-then-see-clause-catches
returns-then-see-clause-catches c =
    let sys = c.args.lent.sys.now in
    let spot = c.args.spot in
    let before = c.args.self.now in
    let tiles = before.growing.grid.tiles in
    let after : Grower = record { growing = c.see.new.self; picker = before.picker; work = c.list_around.new.self } in
    let mid = c.drop_spot.new.self.numbers in
    let is = subst (λ (a : BoxArea). IsSpot a spot) c.requires.can.box c.requires.spot in
    let empty : tile_at tiles spot.site ≡ None = ap (tile_at tiles) (sym is.site ∙ ap (λ (a : BoxArea). site_at a spot.number) (sym c.requires.can.growing.area)) ∙ (sym c.tile.ensures ∙ c.in_default.is) in
    let around = subst (λ (a : BoxArea). ListsAround a after.growing.grid.tiles spot.site mid after.work.numbers) (c.drop_spot.ensures.area ∙ c.requires.can.area) c.list_around.ensures.lists in
    caught_up sys before after spot mid is empty c.requires.lists c.drop_spot.ensures.removes c.if-see.ensures.sees c.see.ensures.idle around

pub returns-then-see-clause-can : goal.returns-then-see-clause-can
returns-then-see-clause-can c =
    let before = c.args.self.now in
    let after : Grower = record { growing = c.see.new.self; picker = before.picker; work = c.list_around.new.self } in
    let claim = c.if-see.ensures.sees in
    can_again c.args.lent before after c.requires.can claim.goes claim.growing c.requires.can.picker (c.list_around.ensures.area ∙ c.drop_spot.ensures.area)

pub returns-else-see-clause-catches : goal.returns-else-see-clause-catches
returns-else-see-clause-catches c =
    let before = c.args.self.now in
    subst (λ (seen : Growing). CatchesUp c.args.lent.sys.now before (record { growing = seen; picker = before.picker; work = before.work }))
    (sym c.if-see.ensures.sees) (caught_none c.args.lent.sys.now before c.requires.lists)

pub returns-else-see-clause-can : goal.returns-else-see-clause-can
returns-else-see-clause-can c =
    let before = c.args.self.now in
    subst (λ (seen : Growing). CanLook c.args.lent (record { growing = seen; picker = before.picker; work = before.work })) (sym c.if-see.ensures.sees) c.requires.can

pub returns-in-Some-clause-catches : goal.returns-in-Some-clause-catches
returns-in-Some-clause-catches c = caught_none c.args.lent.sys.now c.args.self.now c.requires.lists

pub see-requires-clause-spot : goal.see-requires-clause-spot
see-requires-clause-spot c = subst (λ (a : BoxArea). IsSpot a c.args.spot) c.requires.can.box c.requires.spot

pub see-requires-clause-empty : goal.see-requires-clause-empty
see-requires-clause-empty c =
    let spot = c.args.spot in
    let growing = c.args.self.now.growing in
    let is = subst (λ (a : BoxArea). IsSpot a spot) c.requires.can.box c.requires.spot in
    ap (tile_at growing.grid.tiles) (sym is.site ∙ ap (λ (a : BoxArea). site_at a spot.number) (sym c.requires.can.growing.area)) ∙ (sym c.tile.ensures ∙ c.in_default.is)

pub beside_at-beside-requires-clause-inside : goal.beside_at-beside-requires-clause-inside
beside_at-beside-requires-clause-inside c = subst (λ (a : BoxArea). InBox a c.args.spot.site) (c.requires.can.box ∙ sym c.if-see.ensures.sees.growing.area) c.requires.spot.inside

pub beside_at-beside-requires-clause-number : goal.beside_at-beside-requires-clause-number
beside_at-beside-requires-clause-number c =
    ap (λ (a : BoxArea). site_at a c.args.spot.number) (c.if-see.ensures.sees.growing.area ∙ sym c.requires.can.box) ∙ c.requires.spot.site

pub list_around-requires-clause-near : goal.list_around-requires-clause-near
list_around-requires-clause-near c =
    near_inside c.args.lent.sys.now.area c.args.spot.site c.recall_valid.ensures.valid.box (subst (λ (a : BoxArea). InBox a c.args.spot.site) c.requires.can.box c.requires.spot.inside)

pub list_around-requires-clause-spot : goal.list_around-requires-clause-spot
list_around-requires-clause-spot c =
    subst (λ (a : BoxArea). IsSpot a c.args.spot) (c.requires.can.box ∙ sym (c.drop_spot.ensures.area ∙ c.requires.can.area)) c.requires.spot
