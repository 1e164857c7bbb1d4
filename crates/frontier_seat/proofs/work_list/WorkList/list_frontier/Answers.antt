use Rattle.std.proofs.Common.{◌+◌, ◌*◌, ◌∙◌, refl, sym, subst, arith}
use Rattle.atam.specs.declared.area.BoxArea.{BoxArea}
use Rattle.atam.specs.Sites.{width_of}
use Rattle.frontier_seat.specs.Inner.Listings.{AreEmptySites, ListsFrontierTo}
use Rattle.frontier_seat.proofs.Listing.{frontier_to, row_more}
use Rattle.frontier_seat.proofs.work_list.WorkList.list_frontier.Goals as goal

pub list_row-requires-clause-before : goal.list_row-requires-clause-before
list_row-requires-clause-before c =
    subst (λ (a : BoxArea). ListsFrontierTo a c.args.grid.now.tiles c.loop-row.self.numbers (c.loop-row.row * width_of a)) (sym c.loop-row.invariant.area) c.loop-row.invariant.lists

pub loop-row-preserved : goal.loop-row-preserved
loop-row-preserved c =
    let area = c.args.self.now.area in
    let tiles = c.args.grid.now.tiles in
    let numbers = c.list_row.new.self.numbers in
    let before = c.loop-row.invariant.area in
    let row = c.loop-row.row in
    record {
      area = c.list_row.ensures.area ∙ before;
      empty = subst (λ (a : BoxArea). AreEmptySites a tiles numbers) before c.list_row.ensures.empty;
      lists = frontier_to area tiles numbers (row * width_of area + width_of area) ((row + 1) * width_of area) (sym (row_more row (row + 1) (width_of area) refl))
          (subst (λ (a : BoxArea). ListsFrontierTo a tiles numbers (row * width_of a + width_of a)) before c.list_row.ensures.lists);
    }

pub loop-row-init : goal.loop-row-init
loop-row-init c = record {
  area = refl;
  empty = λ n listed. absurd (c.requires.none n listed);
  lists = λ k n d t below. let never : ⊥ = omega (arith, below) in absurd never;
}

pub list_row-requires-clause-empty : goal.list_row-requires-clause-empty
list_row-requires-clause-empty c = subst (λ (a : BoxArea). AreEmptySites a c.args.grid.now.tiles c.loop-row.self.numbers) (sym c.loop-row.invariant.area) c.loop-row.invariant.empty

pub returns-clause-empty : goal.returns-clause-empty
returns-clause-empty c = c.loop-row.invariant.empty
