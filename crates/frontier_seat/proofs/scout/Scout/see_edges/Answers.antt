use Rattle.std.proofs.Common.{◌∙◌, length, ap, sym, subst, arith}
use Rattle.atam.specs.TileSystem.{TileSystem}
use Rattle.frontier_seat.specs.declared.grower.Grower.{Grower}
use Rattle.frontier_seat.specs.declared.grower.Setting.{Setting}
use Rattle.frontier_seat.specs.declared.growing.Growing.{Growing}
use Rattle.frontier_seat.specs.Growths.{ClaimsNothing, GrowsOn, IsGrowing}
use Rattle.frontier_seat.specs.Inner.Listings.{ListedSites}
use Rattle.frontier_seat.specs.Inner.Looks.{ListsOpen, MayList}
use Rattle.frontier_seat.proofs.Scouts.{can_begin, keeps, of_system}
use Rattle.frontier_seat.proofs.scout.Scout.see_edges.Goals as goal

pub list-requires-clause-growing : goal.list-requires-clause-growing
list-requires-clause-growing c = subst (λ (s : TileSystem). IsGrowing s c.self.inside.grower.growing) (of_system c.self.inside.grower.growing c.args.self.now c.args.table.now c.args.sys.now c.self.view_is c.requires.seat c.requires.system) c.self.invariant.0

pub list-requires-clause-area : goal.list-requires-clause-area
list-requires-clause-area c = c.self.invariant.2 ∙ ap (λ (s : TileSystem). s.area) (of_system c.self.inside.grower.growing c.args.self.now c.args.table.now c.args.sys.now c.self.view_is c.requires.seat c.requires.system)

pub list-requires-clause-may : goal.list-requires-clause-may
list-requires-clause-may c =
    let grower = c.self.inside.grower in
    subst (λ (s : TileSystem). MayList s grower.growing.grid.tiles c.self.inside.listed grower.work.numbers) (of_system c.self.inside.grower.growing c.args.self.now c.args.table.now c.args.sys.now c.self.view_is c.requires.seat c.requires.system) c.self.invariant.3

pub see_edges-requires-clause-can : goal.see_edges-requires-clause-can
see_edges-requires-clause-can c =
    let inv = c.self.invariant in
    let lent : Setting = record { sys = c.args.sys; table = c.args.table; area = c.area-area.result } in
    let grower : Grower = record { growing = c.self.inside.grower.growing; picker = c.self.inside.grower.picker; work = c.cut.new.self } in
    can_begin lent grower c.args.self.now c.area-area.ensures.area c.requires.system c.requires.seat c.self.view_is inv.0 inv.1 (ap (λ (w : ListedSites). w.area) c.cut.ensures ∙ c.list.ensures.area ∙ inv.2)

pub see_edges-requires-clause-lists : goal.see_edges-requires-clause-lists
see_edges-requires-clause-lists c =
    subst (λ (w : ListedSites). ListsOpen c.args.sys.now c.self.inside.grower.growing.grid.tiles w.numbers) (sym c.cut.ensures) c.list.ensures.lists

pub invariant_of-self : goal.invariant_of-self
invariant_of-self c =
    let lent : Setting = record { sys = c.args.sys; table = c.args.table; area = c.area-area.result } in
    keeps lent c.see_edges.new.self c.see_edges.ensures.can c.see_edges.ensures.catches.lists

pub returns-clause-goes : goal.returns-clause-goes
returns-clause-goes c = subst (λ (h : Growing). GrowsOn h c.see_edges.new.self.growing) c.self.view_is c.see_edges.ensures.catches.goes

pub returns-clause-idle : goal.returns-clause-idle
returns-clause-idle c = subst (λ (h : Growing). ClaimsNothing h c.see_edges.new.self.growing) c.self.view_is c.see_edges.ensures.catches.idle

pub returns-clause-seen : goal.returns-clause-seen
returns-clause-seen c = c.see_edges.ensures.can.growing.seen

pub returns-clause-more : goal.returns-clause-more
returns-clause-more c =
    let before = ap (λ (h : Growing). length h.grid.tiles) c.self.view_is in
    omega (arith, c.see_edges.ensures.catches.more, before)
