use Rattle.std.proofs.Common.{◌∙◌, subst, sym, List, get_or, pos, arith}
use Rattle.atam.specs.declared.area.BoxArea.{BoxArea}
use Rattle.atam.specs.declared.place.Place.{Place}
use Rattle.atam.specs.Placements.{SamePlacements}
use Rattle.frontier_seat.specs.Inner.Listings.{ListsAround}
use Rattle.frontier_seat.proofs.Filling.{beside_all, beside_more, open_beside}
use Rattle.frontier_seat.proofs.Listing.{empty_around}
use Rattle.frontier_seat.proofs.beside_seeds.list_beside_seeds.Goals as goal

pub loop-seed-preserved : goal.loop-seed-preserved
loop-seed-preserved c =
    let area = c.args.sys.now.area in
    let tiles = c.args.grid.now.tiles in
    let inv = c.loop-seed.invariant in
    let old = c.loop-seed.work.numbers in
    let new = c.list_around.new.self.numbers in
    let seeds = c.seeds-seed-items.result.now in
    let i = c.loop-seed.seed-index in
    let any : Place = record { site = record { y = pos 0; x = pos 0 }; tile = record { 0 = 0 } } in
    let site = (get_or seeds i any).site in
    let around = subst (λ (a : BoxArea). ListsAround a tiles site old new) (inv.area ∙ c.requires.area) c.list_around.ensures.lists in
    record {
      area = c.list_around.ensures.area ∙ inv.area;
      empty = empty_around area tiles site old new inv.empty around;
      lists = beside_more area tiles old new seeds i any c.loop-seed-test.true inv.lists around;
    }

pub returns-clause-lists : goal.returns-clause-lists
returns-clause-lists c =
    let sys = c.args.sys.now in
    let tiles = c.args.grid.now.tiles in
    let inv = c.loop-seed.invariant in
    let seeds = c.seeds-seed-items.result.now in
    record {
      empty = inv.empty;
      all = open_beside sys tiles seeds c.loop-seed.work.numbers c.area-area.ensures.valid.some_tau
          (subst (λ (l : List Place). SamePlacements l tiles) (sym c.seeds-seed-items.ensures.seeds) c.requires.start)
          (beside_all sys.area tiles seeds c.loop-seed.work.numbers c.loop-seed.seed-index (omega arith) inv.lists);
    }
