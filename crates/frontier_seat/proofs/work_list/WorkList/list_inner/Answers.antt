use Rattle.std.proofs.Common.{◌∙◌, subst}
use Rattle.atam.specs.declared.area.BoxArea.{BoxArea}
use Rattle.atam.specs.declared.site.Side.TheVariants.{East, South, West}
use Rattle.atam.specs.Sites.{neighbor}
use Rattle.frontier_seat.specs.Inner.Listings.{ListsSide}
use Rattle.frontier_seat.proofs.Listing.{lists_around}
use Rattle.frontier_seat.proofs.work_list.WorkList.list_inner.Goals as goal

pub returns-clause-lists : goal.returns-clause-lists
returns-clause-lists c =
    let m = c.args.spot.site in
    let beside = c.args.beside.now in
    let a1 = c.list_next.ensures.area in
    let a2 = c.list_next-2.ensures.area ∙ a1 in
    let a3 = c.list_next-3.ensures.area ∙ a2 in
    lists_around c.args.self.now.area c.args.grid.now.tiles m beside
    c.args.self.now.numbers c.list_next.new.self.numbers c.list_next-2.new.self.numbers c.list_next-3.new.self.numbers c.list_next-4.new.self.numbers
    c.requires.beside c.list_next.ensures.lists
    (subst (λ (a : BoxArea). ListsSide a (neighbor m East) beside.east c.list_next.new.self.numbers c.list_next-2.new.self.numbers) a1 c.list_next-2.ensures.lists)
    (subst (λ (a : BoxArea). ListsSide a (neighbor m South) beside.south c.list_next-2.new.self.numbers c.list_next-3.new.self.numbers) a2 c.list_next-3.ensures.lists)
    (subst (λ (a : BoxArea). ListsSide a (neighbor m West) beside.west c.list_next-3.new.self.numbers c.list_next-4.new.self.numbers) a3 c.list_next-4.ensures.lists)
