use Rattle.std.proofs.Common.{◌≡◌, None, refl, subst}
use Rattle.atam.specs.Sites.{neighbor}
use Rattle.attach_rule.proofs.Held.{empty_from}
use Rattle.frontier_seat.specs.Inner.Listings.{ListedSites, ListsSide}
use Rattle.frontier_seat.proofs.Listing.{lists_side, lists_no_side}
use Rattle.frontier_seat.proofs.work_list.WorkList.list_side.Goals as goal

pub returns-in-Some-clause-lists : goal.returns-in-Some-clause-lists
returns-in-Some-clause-lists c =
    let none : c.args.there ≡ None = empty_from c.args.there c.args.there _ refl c.is_some.ensures c.if-is_some.false in
    let m = neighbor c.args.spot.site c.args.side in
    subst (λ (w : ListedSites). ListsSide w.area m c.args.there w.numbers c.insert.new.self) c.self.view_is
    (lists_side c.self.inside.area m c.in-Some.number c.args.there c.self.inside.numbers c.insert.new.self c.in-Some.ensures none c.insert.ensures.adds)

pub returns-in_default-clause-lists : goal.returns-in_default-clause-lists
returns-in_default-clause-lists c =
    subst (λ (w : ListedSites). ListsSide w.area (neighbor c.args.spot.site c.args.side) c.args.there w.numbers w.numbers) c.self.view_is
    (lists_no_side c.self.inside.area (neighbor c.args.spot.site c.args.side) c.args.there c.self.inside.numbers (λ _. c.in_default.ensures) c.self.invariant.0)
