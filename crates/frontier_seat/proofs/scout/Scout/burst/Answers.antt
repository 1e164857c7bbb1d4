use Rattle.std.proofs.Common.{◌∙◌, Bool, MatchBool, length, arith, ap, sym, subst}
use Rattle.atam.specs.Growth.{IsClosedInBox}
use Rattle.frontier_seat.specs.declared.bursting.Burst.{Burst}
use Rattle.frontier_seat.specs.declared.growing.Growing.{Growing}
use Rattle.atam.specs.TileSystem.{TileSystem}
use Rattle.frontier_seat.specs.declared.grower.Grower.{Grower}
use Rattle.frontier_seat.specs.declared.grower.Setting.{Setting}
use Rattle.frontier_seat.specs.Growths.{EndsBurst, GrowsOn, IsGrowing}
use Rattle.frontier_seat.specs.Inner.Listings.{ListedSites}
use Rattle.frontier_seat.specs.Inner.Looks.{ListsOpen, MayList}
use Rattle.site_table.specs.Rule.{IsPossible}
use Rattle.site_table.proofs.Closing.{finally}
use Rattle.frontier_seat.proofs.Looked.{few_tiles, closed_seen, ended_open}
use Rattle.frontier_seat.proofs.Scouts.{can_begin, keeps, of_system}
use Rattle.frontier_seat.proofs.scout.Scout.burst.Goals as goal
use Rattle.frontier_seat.proofs.scout.Scout.burst.Goals.{then-open, else-open}

pub returns-clause-last : goal.returns-clause-last
returns-clause-last g c closed =
    let sys = c.args.sys.now in
    let new = c.is_open-open.new.self.growing in
    let growing = c.is_open-open.ensures.can.growing in
    let real : IsPossible sys new.seat.scout = subst (λ z. IsPossible z new.seat.scout) growing.system c.recall_possible.ensures.possible in
    finally sys new.seat.scout real.valid (closed_seen sys new growing real.scout.distinct closed)

pub returns-clause-fewer : goal.returns-clause-fewer
returns-clause-fewer g c =
    let few = few_tiles c.args.sys.now c.spend.new.self.growing c.spend.ensures.can.growing in
    let some = c.self.invariant.0.some_tile in
    let cost = c.spend.ensures.cost in
    omega (arith, few, some, cost)

pub returns-clause-goes : goal.returns-clause-goes
returns-clause-goes g c =
    let new = c.is_open-open.new.self.growing in
    subst (λ (h : Growing). GrowsOn h new) c.self.view_is
    (subst (GrowsOn c.self.inside.grower.growing) (sym c.is_open-open.ensures.same) c.spend.ensures.goes)

pub returns-clause-ends : goal.returns-clause-ends
returns-clause-ends g c =
    let sys = c.args.sys.now in
    let mid = c.spend.new.self.growing in
    let same = c.is_open-open.ensures.same in
    let before : Growing → Burst → Type 0 = λ h b. EndsBurst sys h mid c.args.most b in
    let closed = IsClosedInBox sys mid.grid.tiles in
    let open_mid = subst (λ (h : Growing). MatchBool c.is_open-open.result (¬ IsClosedInBox sys h.grid.tiles) (IsClosedInBox sys h.grid.tiles)) same c.is_open-open.ensures.open in
    let ends : before c.args.self.now c.if-open.result = subst (λ (h : Growing). before h c.if-open.result) c.self.view_is
    (elim c.if-open.branch [
      | then-open w ↦ subst (before c.self.inside.grower.growing) (sym w.result-is)
          (ended_open sys c.self.inside.grower.growing mid c.args.most c.spend.new.self.work.numbers c.spend.ensures.lists c.spend.ensures.done
          (subst (λ (b : Bool). MatchBool b (¬ closed) closed) w.if-open.true open_mid))
      | else-open w ↦ subst (before c.self.inside.grower.growing) (sym w.result-is)
          (subst (λ (b : Bool). MatchBool b (¬ closed) closed) w.if-open.false open_mid)
    ]) in
    subst (λ (h : Growing). EndsBurst sys c.args.self.now h c.args.most c.if-open.result) (sym same) ends

pub returns-clause-room : goal.returns-clause-room
returns-clause-room g c = few_tiles c.args.sys.now c.is_open-open.new.self.growing c.is_open-open.ensures.can.growing

pub list-requires-clause-growing : goal.list-requires-clause-growing
list-requires-clause-growing g c = subst (λ (s : TileSystem). IsGrowing s c.self.inside.grower.growing) (of_system c.self.inside.grower.growing c.args.self.now c.args.table.now c.args.sys.now c.self.view_is c.requires.seat c.requires.system) c.self.invariant.0

pub list-requires-clause-area : goal.list-requires-clause-area
list-requires-clause-area g c = c.self.invariant.2 ∙ ap (λ (s : TileSystem). s.area) (of_system c.self.inside.grower.growing c.args.self.now c.args.table.now c.args.sys.now c.self.view_is c.requires.seat c.requires.system)

pub list-requires-clause-may : goal.list-requires-clause-may
list-requires-clause-may g c =
    let grower = c.self.inside.grower in
    subst (λ (s : TileSystem). MayList s grower.growing.grid.tiles c.self.inside.listed grower.work.numbers) (of_system c.self.inside.grower.growing c.args.self.now c.args.table.now c.args.sys.now c.self.view_is c.requires.seat c.requires.system) c.self.invariant.3

pub spend-requires-clause-can : goal.spend-requires-clause-can
spend-requires-clause-can g c =
    let inv = c.self.invariant in
    let lent : Setting = record { sys = c.args.sys; table = c.args.table; area = c.area-area.result } in
    let grower : Grower = record { growing = c.self.inside.grower.growing; picker = c.self.inside.grower.picker; work = c.cut.new.self } in
    can_begin lent grower c.args.self.now c.area-area.ensures.area c.requires.system c.requires.seat c.self.view_is inv.0 inv.1 (ap (λ (w : ListedSites). w.area) c.cut.ensures ∙ c.list.ensures.area ∙ inv.2)

pub spend-requires-clause-lists : goal.spend-requires-clause-lists
spend-requires-clause-lists g c =
    subst (λ (w : ListedSites). ListsOpen c.args.sys.now c.self.inside.grower.growing.grid.tiles w.numbers) (sym c.cut.ensures) c.list.ensures.lists

pub is_open-open-requires-clause-can : goal.is_open-open-requires-clause-can
is_open-open-requires-clause-can g c = c.spend.ensures.can

pub is_open-open-requires-clause-lists : goal.is_open-open-requires-clause-lists
is_open-open-requires-clause-lists g c = c.spend.ensures.lists

pub invariant_of-self : goal.invariant_of-self
invariant_of-self g c =
    let lent : Setting = record { sys = c.args.sys; table = c.args.table; area = c.area-area.result } in
    keeps lent c.is_open-open.new.self c.is_open-open.ensures.can c.is_open-open.ensures.lists

pub returns-clause-seen : goal.returns-clause-seen
returns-clause-seen g c = c.is_open-open.ensures.can.growing.seen

pub returns-clause-cost : goal.returns-clause-cost
returns-clause-cost g c =
    let before = ap (λ (h : Growing). length h.grid.tiles) c.self.view_is in
    let after = ap (λ (h : Growing). length h.grid.tiles) c.is_open-open.ensures.same in
    omega (arith, c.spend.ensures.cost, before, after)

pub returns-clause-few : goal.returns-clause-few
returns-clause-few g c = omega (arith, c.spend.ensures.cost, c.spend.ensures.most)
