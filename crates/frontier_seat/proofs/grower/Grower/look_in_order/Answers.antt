use Rattle.std.proofs.Common.{◌<◌, ◌∙◌, [], ◌∷◌, length, length-append, inl, inr, ap, sym, subst, arith}
use Rattle.atam.specs.declared.area.BoxArea.{BoxArea}
use Rattle.assembly.specs.Cells.{cell_count}
use Rattle.number_set.proofs.Counting.{count_below-removes}
use Rattle.frontier_seat.specs.declared.work_list.Spot.{Spot}
use Rattle.frontier_seat.specs.declared.growing.Growing.{Growing}
use Rattle.frontier_seat.specs.Orders.{LoggedClaims}
use Rattle.frontier_seat.specs.Inner.Listings.{IsSpot, ListedSites}
use Rattle.frontier_seat.specs.Inner.Looks.{ListsOpen}
use Rattle.frontier_seat.proofs.Listing.{closed_none, spot_here, taken_spot}
use Rattle.frontier_seat.proofs.Looked.{few_tiles, goes_further, goes_nowhere, less_work}
use Rattle.frontier_seat.proofs.Ordering.{claims_more, claims_start, claims_stay, least_listed}
use Rattle.frontier_seat.proofs.grower.Grower.look_in_order.Goals as goal

pub loop-number-init : goal.loop-number-init
loop-number-init g c = record {
  can = c.requires.can;
  goes = goes_nowhere c.args.self.now.growing;
  row = c.least-row.ensures;
  lists = c.requires.lists;
  order = λ _. claims_start c.args.lent.sys.now c.args.self.now.growing.grid.tiles c.args.log.now c.recall_valid.ensures.valid c.requires.start c.requires.none;
  sole = λ _ said. said;
  count = let none = ap length c.requires.none in omega (arith, none);
  room = λ _. c.args.log.now.room;
  cost = omega arith;
}

pub look_logged-requires-clause-room : goal.look_logged-requires-clause-room
look_logged-requires-clause-room g c =
    let sys = c.args.lent.sys.now in
    let inv = c.loop-number.invariant in
    let few = few_tiles sys c.loop-number.self.growing inv.can.growing in
    let some = c.requires.can.growing.some_tile in
    let count = inv.count in
    let room = inv.room in
    let enough = c.requires.room in
    omega (arith, few, some, count, room, enough)

pub look_logged-requires-clause-taken : goal.look_logged-requires-clause-taken
look_logged-requires-clause-taken g c =
    let inv = c.loop-number.invariant in
    let site = c.site-site.result in
    let number = c.in-Some.number in
    let spot : Spot = record { site = site; number = number } in
    let is = spot_here c.loop-number.self.work.area c.args.lent.area c.args.lent.sys.now.area site number inv.can.area inv.can.box c.in-Some.ensures.within c.site-site.ensures.site c.site-site.ensures.inside in
    taken_spot c.args.lent.sys.now c.loop-number.self.growing.grid.tiles c.loop-number.self.work.numbers
    c.take_least.new.self.numbers spot is c.in-Some.ensures.least.member c.in-Some.ensures.removed inv.lists

pub loop-number-smaller : goal.loop-number-smaller
loop-number-smaller g c =
    let sys = c.args.lent.sys.now in
    let n = cell_count sys.area in
    let looks = c.look_logged.ensures.looks in
    let within = subst (λ (a : BoxArea). c.in-Some.number < cell_count a) c.loop-number.invariant.can.area c.in-Some.ensures.within in
    less_work n (length c.loop-number.self.growing.grid.tiles) (length c.look_logged.new.self.growing.grid.tiles) _ _ _
    (few_tiles sys c.look_logged.new.self.growing c.look_logged.ensures.can.growing)
    (count_below-removes c.loop-number.self.work.numbers c.take_least.new.self.numbers c.in-Some.number n c.in-Some.ensures.removed c.in-Some.ensures.least.member within)
    (looks.on.work n)

pub loop-number-preserved : goal.loop-number-preserved
loop-number-preserved g c =
    let sys = c.args.lent.sys.now in
    let inv = c.loop-number.invariant in
    let before = c.loop-number.self.growing in
    let after = c.look_logged.new.self.growing in
    let old = c.loop-number.log in
    let new = c.look_logged.new.log in
    let numbers = c.loop-number.self.work.numbers in
    let looks = c.look_logged.ensures.looks in
    let site = c.site-site.result in
    let number = c.in-Some.number in
    let spot : Spot = record { site = site; number = number } in
    let is : IsSpot sys.area spot = spot_here c.loop-number.self.work.area c.args.lent.area sys.area site number inv.can.area inv.can.box c.in-Some.ensures.within c.site-site.ensures.site c.site-site.ensures.inside in
    let cost = c.look_logged.ensures.cost in
    let was = inv.cost in
    record {
      can = c.look_logged.ensures.can;
      goes = goes_further c.args.self.now.growing before after inv.goes looks.goes;
      row = c.site-site.ensures.row;
      lists = looks.on.lists;
      order = λ said. elim c.look_logged.ensures.logs [
        | inl logged ↦ claims_more sys before after spot old new inv.can.growing is
            (least_listed sys before.grid.tiles numbers spot c.recall_valid.ensures.valid.box is inv.lists.all c.in-Some.ensures.least) logged (logged.in_order said).1 (inv.order (logged.in_order said).0)
        | inr same ↦ claims_stay sys before after old new same.0 same.1 (inv.order (sym (ap (λ (l : LoggedClaims). l.in_order) same.1) ∙ said))
      ];
      sole = λ all was. elim c.look_logged.ensures.logs [
        | inl logged ↦ logged.sole (inv.goes.seat.owned ∙ all) (inv.sole all was)
        | inr same ↦ ap (λ (l : LoggedClaims). l.in_order) same.1 ∙ inv.sole all was
      ];
      count = elim c.look_logged.ensures.logs [
        | inl logged ↦
            let longer = ap length logged.numbers ∙ length-append old.numbers (number ∷ []) in
            let one = logged.claim.count in
            let all = inv.count in omega (arith, longer, one, all)
        | inr same ↦
            let numbers_same = ap (λ (l : LoggedClaims). length l.numbers) same.1 in
            let tiles_same = ap (λ (h : Growing). length h.grid.tiles) same.0 in
            let all = inv.count in omega (arith, numbers_same, tiles_same, all)
      ];
      room = c.look_logged.ensures.room ∙ inv.room;
      cost = omega (arith, cost, was);
    }

pub returns-clause-closed : goal.returns-clause-closed
returns-clause-closed g c = closed_none c.args.lent.sys.now c.loop-number.self.growing.grid.tiles c.loop-number.self.work.numbers c.in_default.ensures.none c.loop-number.invariant.lists.all

pub returns-clause-lists : goal.returns-clause-lists
returns-clause-lists g c =
    subst (λ (w : ListedSites). ListsOpen c.args.lent.sys.now c.loop-number.self.growing.grid.tiles w.numbers) (sym c.in_default.ensures.same) c.loop-number.invariant.lists
