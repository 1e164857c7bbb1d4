use Rattle.std.proofs.Common.{◌≡◌, ◌∙◌, None, refl, sym, ap, subst}
use Rattle.atam.specs.declared.area.BoxArea.{BoxArea}
use Rattle.atam.specs.Sites.{neighbor}
use Rattle.assembly.specs.Cells.{IsSiteNumber}
use Rattle.attach_rule.proofs.Held.{empty_from}
use Rattle.frontier_seat.specs.Inner.Listings.{ListedSites, ListsSide}
use Rattle.frontier_seat.proofs.Listing.{lists_side}
use Rattle.frontier_seat.proofs.work_list.WorkList.list_next.Goals as goal

pub returns-clause-lists : goal.returns-clause-lists
returns-clause-lists c =
    let none : c.args.there ≡ None = empty_from c.args.there c.args.there _ refl c.is_some.ensures c.if-is_some.false in
    let m = neighbor c.args.spot.site c.args.side in
    let same = ap (λ (w : ListedSites). w.area) c.self.view_is ∙ c.requires.area in
    let is = subst (λ (a : BoxArea). IsSiteNumber a m c.number_next.result) (sym same) c.number_next.ensures in
    subst (λ (w : ListedSites). ListsSide w.area m c.args.there w.numbers c.insert.new.self) c.self.view_is
    (lists_side c.self.inside.area m c.number_next.result c.args.there c.self.inside.numbers c.insert.new.self is none c.insert.ensures.adds)
