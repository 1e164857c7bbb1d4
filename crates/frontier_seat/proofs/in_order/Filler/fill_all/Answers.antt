use Rattle.std.proofs.Common.{◌<◌, ◌∙◌, length, inl, inr, subst, arith}
use Rattle.atam.specs.declared.area.BoxArea.{BoxArea}
use Rattle.atam.proofs.Count.{count_in_box}
use Rattle.assembly.specs.Cells.{cell_count}
use Rattle.number_set.proofs.Counting.{count_below-removes}
use Rattle.frontier_seat.specs.declared.work_list.Spot.{Spot}
use Rattle.frontier_seat.specs.Inner.Listings.{IsSpot}
use Rattle.frontier_seat.proofs.Listing.{closed_none, spot_here, taken_spot}
use Rattle.frontier_seat.proofs.Looked.{less_work}
use Rattle.frontier_seat.proofs.Ordering.{few_logged, least_listed, seen_more, seen_stays}
use Rattle.frontier_seat.proofs.in_order.Filler.fill_all.Goals as goal

pub fill-requires-clause-room : goal.fill-requires-clause-room
fill-requires-clause-room g c =
    let sys = c.args.sys.now in
    let inv = c.loop-number.invariant in
    let valid = c.area-area.ensures.valid in
    let few = few_logged sys c.loop-number.self.grid.tiles c.loop-number.self.log.places valid inv.can.filling.fits inv.order.grew in
    let some = valid.some_seed in
    let room = inv.room in
    let enough = c.requires.room in
    omega (arith, few, some, room, enough)

pub fill-requires-clause-taken : goal.fill-requires-clause-taken
fill-requires-clause-taken g c =
    let inv = c.loop-number.invariant in
    let site = c.site-site.result in
    let number = c.in-Some.number in
    let spot : Spot = record { site = site; number = number } in
    let is = spot_here c.loop-number.self.work.area c.area-area.result c.args.sys.now.area site number inv.can.area c.area-area.ensures.area c.in-Some.ensures.within c.site-site.ensures.site c.site-site.ensures.inside in
    taken_spot c.args.sys.now c.loop-number.self.grid.tiles c.loop-number.self.work.numbers
    c.take_least.new.self.numbers spot is c.in-Some.ensures.least.member c.in-Some.ensures.removed inv.lists

pub loop-number-smaller : goal.loop-number-smaller
loop-number-smaller g c =
    let sys = c.args.sys.now in
    let n = cell_count sys.area in
    let filling = c.fill.ensures.can.filling in
    let within = subst (λ (a : BoxArea). c.in-Some.number < cell_count a) c.loop-number.invariant.can.area c.in-Some.ensures.within in
    less_work n (length c.loop-number.self.grid.tiles) (length c.fill.new.self.grid.tiles) _ _ _
    (count_in_box sys.area c.fill.new.self.grid.tiles filling.distinct filling.fits.sites)
    (count_below-removes c.loop-number.self.work.numbers c.take_least.new.self.numbers c.in-Some.number n c.in-Some.ensures.removed c.in-Some.ensures.least.member within)
    (c.fill.ensures.lists.work n)

pub loop-number-preserved : goal.loop-number-preserved
loop-number-preserved g c =
    let sys = c.args.sys.now in
    let inv = c.loop-number.invariant in
    let before = c.loop-number.self.grid.tiles in
    let after = c.fill.new.self.grid.tiles in
    let old = c.loop-number.self.log in
    let new = c.fill.new.self.log in
    let numbers = c.loop-number.self.work.numbers in
    let site = c.site-site.result in
    let number = c.in-Some.number in
    let spot : Spot = record { site = site; number = number } in
    let is : IsSpot sys.area spot = spot_here c.loop-number.self.work.area c.area-area.result sys.area site number inv.can.area c.area-area.ensures.area c.in-Some.ensures.within c.site-site.ensures.site c.site-site.ensures.inside in
    record {
      can = c.fill.ensures.can;
      row = c.site-site.ensures.row;
      lists = c.fill.ensures.lists.lists;
      order = elim c.fill.ensures.fills [
        | inl fills ↦ seen_more sys before after spot.site old.places new.places old.clean new.clean inv.can.filling.distinct
            (least_listed sys before numbers spot c.area-area.ensures.valid.box is inv.lists.all c.in-Some.ensures.least) fills.fills fills.clean inv.order
        | inr same ↦ seen_stays sys before after old new same.0 same.1 inv.order
      ];
      room = c.fill.ensures.room ∙ inv.room;
    }

pub returns-clause-closed : goal.returns-clause-closed
returns-clause-closed g c = closed_none c.args.sys.now c.loop-number.self.grid.tiles c.loop-number.self.work.numbers c.in_default.ensures.none c.loop-number.invariant.lists.all
