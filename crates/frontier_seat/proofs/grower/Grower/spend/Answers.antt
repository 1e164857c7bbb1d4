use Rattle.std.proofs.Common.{◌≡◌, ◌<◌, ◌∙◌, Bool, MatchBool, length, inl, inr, ap, sym, subst, arith}
use Rattle.atam.specs.declared.area.BoxArea.{BoxArea}
use Rattle.atam.specs.Sites.{IsBox}
use Rattle.assembly.specs.Cells.{cell_count}
use Rattle.number_set.specs.Numbers.{IsIn}
use Rattle.number_set.proofs.Counting.{count_below-removes}
use Rattle.frontier_seat.specs.declared.grower.Grower.{Grower}
use Rattle.frontier_seat.specs.declared.grower.Setting.{Setting}
use Rattle.frontier_seat.specs.declared.growing.Growing.{Growing}
use Rattle.frontier_seat.specs.Inner.Listings.{ListedSites}
use Rattle.frontier_seat.specs.Inner.Looks.{CanLook, ClaimsPick, ListsOpen}
use Rattle.frontier_seat.proofs.Listing.{spot_here, taken_spot}
use Rattle.frontier_seat.proofs.Looked.{few_tiles, goes_further, goes_nowhere, less_work}
use Rattle.frontier_seat.proofs.grower.Grower.spend.Goals as goal

-- whichever sites are listed
can_beside : (lent : Setting) (grower : Grower) (work : ListedSites) → CanLook lent grower → work.area ≡ grower.work.area → CanLook lent (record { growing = grower.growing; picker = grower.picker; work = work })
can_beside lent grower work can same = record { box = can.box; system = can.system; seat = can.seat; growing = can.growing; picker = can.picker; area = same ∙ can.area }

pub loop-left-init : goal.loop-left-init
loop-left-init g c = record {
  can = c.requires.can;
  goes = goes_nowhere c.args.self.now.growing;
  row = c.least-row.ensures;
  lists = c.requires.lists;
  made = omega arith;
  cost = omega arith;
}

pub look-seen-requires-clause-taken : goal.look-seen-requires-clause-taken
look-seen-requires-clause-taken g c =
    let inv = c.loop-left.invariant in
    let old = c.loop-left.self.work.numbers in
    let new = c.take.new.self.numbers in
    let site = c.site-site.result in
    let number = c.in-Some.number in
    let is = spot_here c.loop-left.self.work.area c.args.lent.area c.args.lent.sys.now.area site number inv.can.area inv.can.box c.in-Some.ensures.within c.site-site.ensures.site c.site-site.ensures.inside in
    taken_spot c.args.lent.sys.now c.loop-left.self.growing.grid.tiles old new (record { site = site; number = number }) is c.in-Some.ensures.listed c.in-Some.ensures.removed inv.lists

pub loop-left-smaller-then-seen : goal.loop-left-smaller-then-seen
loop-left-smaller-then-seen g c =
    let sys = c.args.lent.sys.now in
    let n = cell_count sys.area in
    let looks = c.look-seen.ensures.looks in
    let within = subst (λ (a : BoxArea). c.in-Some.number < cell_count a) c.loop-left.invariant.can.area c.in-Some.ensures.within in
    less_work n (length c.loop-left.self.growing.grid.tiles) (length c.look-seen.new.self.growing.grid.tiles) _ _ _
    (few_tiles sys c.look-seen.new.self.growing c.look-seen.ensures.can.growing)
    (count_below-removes c.loop-left.self.work.numbers c.take.new.self.numbers c.in-Some.number n c.in-Some.ensures.removed c.in-Some.ensures.listed within)
    (looks.on.work n)

pub loop-left-smaller : goal.loop-left-smaller
loop-left-smaller g c =
    let sys = c.args.lent.sys.now in
    let n = cell_count sys.area in
    let looks = c.look-seen.ensures.looks in
    let within = subst (λ (a : BoxArea). c.in-Some.number < cell_count a) c.loop-left.invariant.can.area c.in-Some.ensures.within in
    less_work n (length c.loop-left.self.growing.grid.tiles) (length c.look-seen.new.self.growing.grid.tiles) _ _ _
    (few_tiles sys c.look-seen.new.self.growing c.look-seen.ensures.can.growing)
    (count_below-removes c.loop-left.self.work.numbers c.take.new.self.numbers c.in-Some.number n c.in-Some.ensures.removed c.in-Some.ensures.listed within)
    (looks.on.work n)

pub loop-left-preserved-then-seen : goal.loop-left-preserved-then-seen
loop-left-preserved-then-seen g c =
    let inv = c.loop-left.invariant in
    let looks = c.look-seen.ensures.looks in
    let cost = c.look-seen.ensures.cost in
    let before = inv.cost in
    let made = inv.made in
    let some = c.loop-left-test.true in
    let claim = subst (λ (b : Bool). MatchBool b (ClaimsPick c.args.lent.sys.now c.site-site.result c.loop-left.self.growing c.look-seen.new.self.growing c.look-seen.result.picked) (c.look-seen.new.self.growing ≡ c.loop-left.self.growing)) c.if-seen.true c.look-seen.ensures.tells.claims in
    let count = claim.claim.count in
    record {
      can = c.look-seen.ensures.can;
      goes = goes_further c.args.self.now.growing c.loop-left.self.growing c.look-seen.new.self.growing inv.goes looks.goes;
      row = c.site-site.ensures.row;
      lists = looks.on.lists;
      made = omega (arith, made, count, some);
      cost = omega (arith, cost, before);
    }

pub loop-left-preserved : goal.loop-left-preserved
loop-left-preserved g c =
    let inv = c.loop-left.invariant in
    let looks = c.look-seen.ensures.looks in
    let cost = c.look-seen.ensures.cost in
    let before = inv.cost in
    let made = inv.made in
    let same : c.look-seen.new.self.growing ≡ c.loop-left.self.growing = subst (λ (b : Bool). MatchBool b (ClaimsPick c.args.lent.sys.now c.site-site.result c.loop-left.self.growing c.look-seen.new.self.growing c.look-seen.result.picked) (c.look-seen.new.self.growing ≡ c.loop-left.self.growing)) c.if-seen.false c.look-seen.ensures.tells.claims in
    let count = ap (λ (h : Growing). length h.grid.tiles) same in
    record {
      can = c.look-seen.ensures.can;
      goes = goes_further c.args.self.now.growing c.loop-left.self.growing c.look-seen.new.self.growing inv.goes looks.goes;
      row = c.site-site.ensures.row;
      lists = looks.on.lists;
      made = omega (arith, made, count);
      cost = omega (arith, cost, before);
    }

pub look-seen-requires-clause-can : goal.look-seen-requires-clause-can
look-seen-requires-clause-can g c = can_beside c.args.lent c.loop-left.self c.take.new.self c.loop-left.invariant.can c.take.ensures.area

pub site-site-requires-clause-limits : goal.site-site-requires-clause-limits
site-site-requires-clause-limits g c = subst IsBox (sym c.requires.can.box) c.recall_valid.ensures.valid.box

pub returns-in_default-clause-can : goal.returns-in_default-clause-can
returns-in_default-clause-can g c = can_beside c.args.lent c.loop-left.self c.take.new.self c.loop-left.invariant.can c.take.ensures.area

pub returns-in_default-clause-lists : goal.returns-in_default-clause-lists
returns-in_default-clause-lists g c =
    subst (λ (w : ListedSites). ListsOpen c.args.lent.sys.now c.loop-left.self.growing.grid.tiles w.numbers) (sym c.in_default.ensures.same) c.loop-left.invariant.lists

pub returns-in_default-clause-done : goal.returns-in_default-clause-done
returns-in_default-clause-done g c = inl (λ n listed. c.in_default.ensures.none n (subst (λ (w : ListedSites). IsIn w.numbers n) c.in_default.ensures.same listed))

pub returns-in_default-clause-most : goal.returns-in_default-clause-most
returns-in_default-clause-most g c = omega (arith, c.loop-left.invariant.made)

pub returns-in_default-clause-cost : goal.returns-in_default-clause-cost
returns-in_default-clause-cost g c = c.loop-left.invariant.cost

pub returns-clause-done : goal.returns-clause-done
returns-clause-done g c = inr (omega (arith, c.loop-left.invariant.made, c.loop-left-test.false))

pub returns-clause-most : goal.returns-clause-most
returns-clause-most g c = omega (arith, c.loop-left.invariant.made)
