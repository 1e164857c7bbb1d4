use Rattle.std.proofs.Common.{◌≡◌, ◌+◌, ◌*◌, ◌∙◌, refl, ap, sym, subst, arith}
use Rattle.atam.specs.declared.area.BoxArea.{BoxArea}
use Rattle.atam.specs.Sites.{width_of}
use Rattle.frontier_seat.specs.declared.work_list.Spot.{Spot}
use Rattle.frontier_seat.specs.Inner.Listings.{AreEmptySites, IsSpot, ListedSites, ListsFrontierTo}
use Rattle.frontier_seat.proofs.Listing.{frontier_to, spot_in_row}
use Rattle.frontier_seat.proofs.work_list.WorkList.list_tiles.Goals as goal

pub list_tile-requires-clause-before : goal.list_tile-requires-clause-before
list_tile-requires-clause-before c =
    let area = c.args.self.now.area in
    let tiles = c.args.grid.now.tiles in
    let numbers = c.loop-column.self.numbers in
    let own : c.self.inside.area ≡ area = ap (λ (w : ListedSites). w.area) c.self.view_is in
    let width : c.width-width.result ≡ width_of area = c.width-width.ensures ∙ ap width_of own in
    let rows : c.args.row * c.width-width.result ≡ c.args.row * width_of area = ap (λ k. c.args.row * k) width in
    subst (λ (a : BoxArea). ListsFrontierTo a tiles numbers (c.args.row * c.width-width.result + c.loop-column.column)) (sym c.loop-column.invariant.area)
    (frontier_to area tiles numbers _ _ (omega (arith, rows)) c.loop-column.invariant.lists)

pub loop-column-preserved : goal.loop-column-preserved
loop-column-preserved c =
    let area = c.args.self.now.area in
    let tiles = c.args.grid.now.tiles in
    let numbers = c.list_tile.new.self.numbers in
    let before = c.loop-column.invariant.area in
    let own : c.self.inside.area ≡ area = ap (λ (w : ListedSites). w.area) c.self.view_is in
    let width : c.width-width.result ≡ width_of area = c.width-width.ensures ∙ ap width_of own in
    let rows : c.args.row * c.width-width.result ≡ c.args.row * width_of area = ap (λ k. c.args.row * k) width in
    record {
      area = c.list_tile.ensures.area ∙ before;
      empty = subst (λ (a : BoxArea). AreEmptySites a tiles numbers) before c.list_tile.ensures.empty;
      lists = frontier_to area tiles numbers _ _ (omega (arith, rows)) (subst (λ (a : BoxArea). ListsFrontierTo a tiles numbers (c.args.row * c.width-width.result + c.loop-column.column + 1)) before c.list_tile.ensures.lists);
    }

pub loop-column-init : goal.loop-column-init
loop-column-init c = record { area = refl; empty = c.requires.empty; lists = frontier_to c.args.self.now.area c.args.grid.now.tiles c.args.self.now.numbers _ _ (omega arith) c.requires.before }

pub list_tile-requires-clause-area : goal.list_tile-requires-clause-area
list_tile-requires-clause-area c = c.requires.area ∙ sym c.loop-column.invariant.area

pub list_tile-requires-clause-empty : goal.list_tile-requires-clause-empty
list_tile-requires-clause-empty c = subst (λ (a : BoxArea). AreEmptySites a c.args.grid.now.tiles c.loop-column.self.numbers) (sym c.loop-column.invariant.area) c.loop-column.invariant.empty

pub list_tile-requires-clause-spot : goal.list_tile-requires-clause-spot
list_tile-requires-clause-spot c =
    let number = c.args.row * c.width-width.result + c.loop-column.column in
    let spot : Spot = record { site = c.site-site.result; number = number } in
    let is = spot_in_row c.self.inside.area c.site-site.result c.args.row c.loop-column.column c.width-width.result number c.site-site.ensures.inside c.site-site.ensures.value c.width-width.ensures refl in
    subst (λ (a : BoxArea). IsSpot a spot) (ap (λ (w : ListedSites). w.area) c.self.view_is ∙ sym c.loop-column.invariant.area) is

pub returns-clause-empty : goal.returns-clause-empty
returns-clause-empty c = c.loop-column.invariant.empty

pub returns-clause-lists : goal.returns-clause-lists
returns-clause-lists c =
    let width : c.width-width.result ≡ width_of c.args.self.now.area = c.width-width.ensures ∙ ap (λ (w : ListedSites). width_of w.area) c.self.view_is in
    frontier_to c.args.self.now.area c.args.grid.now.tiles c.loop-column.self.numbers _ _ (omega (arith, width, c.loop-column-test.false, c.loop-column.auto.column-end)) c.loop-column.invariant.lists
