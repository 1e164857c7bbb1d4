use Rattle.std.proofs.Common.{◌∙◌, length, ap, sym, subst, arith}
use Rattle.frontier_seat.specs.declared.growing.Growing.{Growing}
use Rattle.atam.specs.Placements.{SamePlacements}
use Rattle.atam.specs.TileSystem.{TileSystem}
use Rattle.frontier_seat.specs.declared.grower.Grower.{Grower}
use Rattle.frontier_seat.specs.declared.grower.Setting.{Setting}
use Rattle.frontier_seat.specs.Growths.{GrowsOn, IsGrowing}
use Rattle.frontier_seat.specs.Inner.Looks.{MayList}
use Rattle.site_table.specs.Rule.{IsPossible}
use Rattle.site_table.proofs.Closing.{finally}
use Rattle.frontier_seat.proofs.Looked.{few_tiles, closed_seen}
use Rattle.frontier_seat.proofs.Ordering.{canonical_claims, grew_exact}
use Rattle.frontier_seat.proofs.Scouts.{can_begin, keeps, of_system}
use Rattle.frontier_seat.proofs.scout.Scout.sweep_in_order.Goals as goal

pub returns-clause-goes : goal.returns-clause-goes
returns-clause-goes g c = subst (λ (h : Growing). GrowsOn h c.look_in_order.new.self.growing) c.self.view_is c.look_in_order.ensures.goes

pub returns-clause-last : goal.returns-clause-last
returns-clause-last g c =
    let sys = c.args.sys.now in
    let new = c.look_in_order.new.self.growing in
    let growing = c.look_in_order.ensures.can.growing in
    let real : IsPossible sys new.seat.scout = subst (λ z. IsPossible z new.seat.scout) growing.system c.recall_possible.ensures.possible in
    finally sys new.seat.scout real.valid (closed_seen sys new growing real.scout.distinct c.look_in_order.ensures.closed)

pub returns-clause-order : goal.returns-clause-order
returns-clause-order g c said =
    let new = c.look_in_order.new.self.growing in
    canonical_claims c.args.sys.now new.grid.tiles c.look_in_order.new.log c.recall_valid.ensures.valid c.look_in_order.ensures.can.growing.fits (c.look_in_order.ensures.order said)

pub returns-clause-clean : goal.returns-clause-clean
returns-clause-clean g c said exact =
    let new = c.look_in_order.new.self.growing in
    let growing = c.look_in_order.ensures.can.growing in
    grew_exact c.args.sys.now new.grid.tiles c.look_in_order.new.log c.recall_valid.ensures.valid growing.distinct growing.fits (c.look_in_order.ensures.order said) exact

pub returns-clause-sole : goal.returns-clause-sole
returns-clause-sole g c all was = c.look_in_order.ensures.sole (ap (λ (h : Growing). h.seat.scout.owned) c.self.view_is ∙ all) was

pub returns-clause-few : goal.returns-clause-few
returns-clause-few g c =
    let few = few_tiles c.args.sys.now c.look_in_order.new.self.growing c.look_in_order.ensures.can.growing in
    let some = c.self.invariant.0.some_tile in
    let cost = c.look_in_order.ensures.cost in
    omega (arith, few, some, cost)

pub list_seeded-requires-clause-growing : goal.list_seeded-requires-clause-growing
list_seeded-requires-clause-growing g c = subst (λ (s : TileSystem). IsGrowing s c.self.inside.grower.growing) (of_system c.self.inside.grower.growing c.args.self.now c.args.table.now c.args.sys.now c.self.view_is c.requires.seat c.requires.system) c.self.invariant.0

pub list_seeded-requires-clause-area : goal.list_seeded-requires-clause-area
list_seeded-requires-clause-area g c = c.self.invariant.2 ∙ ap (λ (s : TileSystem). s.area) (of_system c.self.inside.grower.growing c.args.self.now c.args.table.now c.args.sys.now c.self.view_is c.requires.seat c.requires.system)

pub list_seeded-requires-clause-may : goal.list_seeded-requires-clause-may
list_seeded-requires-clause-may g c =
    let grower = c.self.inside.grower in
    subst (λ (s : TileSystem). MayList s grower.growing.grid.tiles c.self.inside.listed grower.work.numbers) (of_system c.self.inside.grower.growing c.args.self.now c.args.table.now c.args.sys.now c.self.view_is c.requires.seat c.requires.system) c.self.invariant.3

pub list_seeded-requires-clause-start : goal.list_seeded-requires-clause-start
list_seeded-requires-clause-start g c = subst (λ (h : Growing). SamePlacements c.args.sys.now.seeds h.grid.tiles) (sym c.self.view_is) c.requires.start

pub look_in_order-requires-clause-can : goal.look_in_order-requires-clause-can
look_in_order-requires-clause-can g c =
    let inv = c.self.invariant in
    let lent : Setting = record { sys = c.args.sys; table = c.args.table; area = c.area-area.result } in
    let grower : Grower = record { growing = c.self.inside.grower.growing; picker = c.self.inside.grower.picker; work = c.list_seeded.new.work } in
    can_begin lent grower c.args.self.now c.area-area.ensures.area c.requires.system c.requires.seat c.self.view_is inv.0 inv.1 (c.list_seeded.ensures.area ∙ inv.2)

pub look_in_order-requires-clause-lists : goal.look_in_order-requires-clause-lists
look_in_order-requires-clause-lists g c = c.list_seeded.ensures.lists

pub look_in_order-requires-clause-start : goal.look_in_order-requires-clause-start
look_in_order-requires-clause-start g c = subst (λ (h : Growing). SamePlacements c.args.sys.now.seeds h.grid.tiles) (sym c.self.view_is) c.requires.start

pub invariant_of-self : goal.invariant_of-self
invariant_of-self g c =
    let lent : Setting = record { sys = c.args.sys; table = c.args.table; area = c.area-area.result } in
    keeps lent c.look_in_order.new.self c.look_in_order.ensures.can c.look_in_order.ensures.lists

pub returns-clause-seen : goal.returns-clause-seen
returns-clause-seen g c = c.look_in_order.ensures.can.growing.seen

pub returns-clause-cost : goal.returns-clause-cost
returns-clause-cost g c =
    let before = ap (λ (h : Growing). length h.grid.tiles) c.self.view_is in
    omega (arith, c.look_in_order.ensures.cost, before)
