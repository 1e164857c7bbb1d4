use Rattle.std.proofs.Common.{◌<◌, ◌∙◌, Bool, MatchBool, ap, sym, subst, arith}
use Rattle.atam.specs.declared.area.BoxArea.{BoxArea}
use Rattle.assembly.specs.Cells.{cell_count}
use Rattle.atam.specs.declared.place.TypeId.{TypeId}
use Rattle.atam.specs.Growth.{IsCandidate}
use Rattle.atam.specs.Placements.{tile_at}
use Rattle.number_set.proofs.Counting.{count_below-removes}
use Rattle.frontier_seat.specs.declared.work_list.Spot.{Spot}
use Rattle.frontier_seat.specs.Inner.Looks.{HasCandidate}
use Rattle.frontier_seat.proofs.Listing.{closed_none, lists_again, spot_here, taken_spot}
use Rattle.frontier_seat.proofs.Filling.{lists_unfilled}
use Rattle.frontier_seat.proofs.grower.Grower.is_open.Goals as goal

pub loop-number-smaller : goal.loop-number-smaller
loop-number-smaller g c =
    let inv = c.loop-number.invariant in
    let within = subst (λ (a : BoxArea). c.in-Some.number < cell_count a) inv.can.area c.in-Some.ensures.within in
    let few = count_below-removes c.loop-number.self.work.numbers c.take.new.self.numbers c.in-Some.number (cell_count c.args.lent.sys.now.area) c.in-Some.ensures.removed c.in-Some.ensures.listed within in
    omega (arith, few)

pub loop-number-preserved : goal.loop-number-preserved
loop-number-preserved g c =
    let sys = c.args.lent.sys.now in
    let tiles = c.loop-number.self.growing.grid.tiles in
    let inv = c.loop-number.invariant in
    let site = c.site-site.result in
    let number = c.in-Some.number in
    let spot : Spot = record { site = site; number = number } in
    let mid = c.take.new.self.numbers in
    let is = spot_here c.loop-number.self.work.area c.args.lent.area sys.area site number inv.can.area inv.can.box c.in-Some.ensures.within c.site-site.ensures.site c.site-site.ensures.inside in
    let none = subst (λ (b : Bool). MatchBool b (HasCandidate sys tiles site) ((t : TypeId) → ¬ IsCandidate sys tiles site t)) c.if-attaches.false c.attaches.ensures.open in
    let on = lists_unfilled sys tiles spot mid (taken_spot sys tiles c.loop-number.self.work.numbers mid spot is c.in-Some.ensures.listed c.in-Some.ensures.removed inv.lists) none in
    record {
      can = record {
        box = inv.can.box;
        system = inv.can.system;
        seat = inv.can.seat;
        growing = inv.can.growing;
        picker = c.attaches.ensures.picker;
        area = c.take.ensures.area ∙ inv.can.area;
      };
      same = inv.same;
      row = c.site-site.ensures.row;
      lists = on.lists;
    }

pub attaches-requires-clause-empty : goal.attaches-requires-clause-empty
attaches-requires-clause-empty g c =
    let inv = c.loop-number.invariant in
    let is = spot_here c.loop-number.self.work.area c.args.lent.area c.args.lent.sys.now.area c.site-site.result c.in-Some.number inv.can.area inv.can.box c.in-Some.ensures.within c.site-site.ensures.site c.site-site.ensures.inside in
    ap (tile_at c.loop-number.self.growing.grid.tiles) (sym is.site) ∙ inv.lists.empty c.in-Some.number c.in-Some.ensures.listed

pub attaches-requires-clause-spot : goal.attaches-requires-clause-spot
attaches-requires-clause-spot g c =
    let inv = c.loop-number.invariant in
    spot_here c.loop-number.self.work.area c.args.lent.area c.args.lent.sys.now.area c.site-site.result c.in-Some.number inv.can.area inv.can.box c.in-Some.ensures.within c.site-site.ensures.site c.site-site.ensures.inside

pub returns-then-attaches-clause-lists : goal.returns-then-attaches-clause-lists
returns-then-attaches-clause-lists g c =
    let sys = c.args.lent.sys.now in
    let tiles = c.loop-number.self.growing.grid.tiles in
    let inv = c.loop-number.invariant in
    lists_again sys tiles c.loop-number.self.work.numbers c.take.new.self.numbers c.put_back.new.self.numbers c.in-Some.number c.in-Some.ensures.listed c.in-Some.ensures.removed c.put_back.ensures.adds inv.lists

pub returns-then-attaches-clause-open : goal.returns-then-attaches-clause-open
returns-then-attaches-clause-open g c closed =
    let sys = c.args.lent.sys.now in
    let tiles = c.loop-number.self.growing.grid.tiles in
    let inv = c.loop-number.invariant in
    let is = spot_here c.loop-number.self.work.area c.args.lent.area c.args.lent.sys.now.area c.site-site.result c.in-Some.number inv.can.area inv.can.box c.in-Some.ensures.within c.site-site.ensures.site c.site-site.ensures.inside in
    let some : HasCandidate sys tiles c.site-site.result = subst (λ (b : Bool). MatchBool b (HasCandidate sys tiles c.site-site.result) ((t : TypeId) → ¬ IsCandidate sys tiles c.site-site.result t)) c.if-attaches.true c.attaches.ensures.open in
    closed c.site-site.result some.tile is.inside some.attaches

pub returns-clause-open : goal.returns-clause-open
returns-clause-open g c =
    closed_none c.args.lent.sys.now c.loop-number.self.growing.grid.tiles c.loop-number.self.work.numbers c.in_default.ensures.none c.loop-number.invariant.lists.all
