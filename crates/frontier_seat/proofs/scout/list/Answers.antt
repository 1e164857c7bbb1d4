use Rattle.std.proofs.Common.{subst}
use Rattle.atam.specs.declared.area.BoxArea.{BoxArea}
use Rattle.frontier_seat.specs.Inner.Listings.{AreEmptySites, ListsFrontier}
use Rattle.frontier_seat.proofs.Listing.{closed_but_frontier}
use Rattle.frontier_seat.proofs.scout.list.Goals as goal

pub returns-clause-lists : goal.returns-clause-lists
returns-clause-lists c =
    let sys = c.args.sys.now in
    let tiles = c.args.growing.now.grid.tiles in
    let numbers = c.list_frontier.new.self.numbers in
    record {
      empty = subst (λ (a : BoxArea). AreEmptySites a tiles numbers) c.requires.area c.list_frontier.ensures.empty;
      all = closed_but_frontier sys tiles numbers c.recall_valid.ensures.valid.some_tau c.requires.growing.fits (subst (λ (a : BoxArea). ListsFrontier a tiles numbers) c.requires.area c.list_frontier.ensures.lists);
    }
