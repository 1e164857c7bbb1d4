use Rattle.std.proofs.Common.{◌≡◌, Some, sym, ◌∙◌, ap, subst, arith}
use Rattle.atam.specs.declared.area.BoxArea.{BoxArea}
use Rattle.atam.specs.Sites.{InBox, neighbor}
use Rattle.atam.specs.Placements.{tile_at}
use Rattle.assembly.specs.Cells.{IsSiteNumber, site_at}
use Rattle.replay_order.specs.Inner.Spans.{standing}
use Rattle.replay_order.proofs.InTurn.{stands_behind}
use Rattle.replay_order.proofs.ReadySites.{Fits-tile}
use Rattle.replay_order.proofs.in_turn.strength_before.Goals as goal

pub number_beside-requires-clause-inside : goal.number_beside-requires-clause-inside
number_beside-requires-clause-inside c =
    let inside = (Fits-tile c.args.bonds.now c.args.grid.now.tiles c.args.place.site c.args.place.tile c.requires.can.fits c.requires.placed).1 in
    subst (λ (a : BoxArea). InBox a c.args.place.site) (sym (c.area-area.ensures.area ∙ c.requires.can.area)) inside

pub between-requires-clause-kind : goal.between-requires-clause-kind
between-requires-clause-kind c = (Fits-tile c.args.bonds.now c.args.grid.now.tiles c.args.place.site c.args.place.tile c.requires.can.fits c.requires.placed).0

pub between-requires-clause-beside : goal.between-requires-clause-beside
between-requires-clause-beside c =
    (Fits-tile c.args.bonds.now c.args.grid.now.tiles (site_at c.args.grid.now.area c.in-Some.beside) c.in-Some-tile.tile c.requires.can.fits (sym c.tile.ensures ∙ c.in-Some-tile.is)).0

pub returns-clause-strength : goal.returns-clause-strength
returns-clause-strength c =
    let sys = c.args.bonds.now in
    let grid = c.args.grid.now in
    let m = c.args.place.site in
    let d = c.args.side in
    let k = c.in-Some.beside in
    let is : IsSiteNumber c.area-area.result (neighbor m d) k = c.in-Some.ensures in
    let there : site_at sys.area k ≡ neighbor m d = ap (λ (a : BoxArea). site_at a k) (sym (c.area-area.ensures.area ∙ c.requires.can.area)) ∙ is.site in
    let own : site_at grid.area k ≡ neighbor m d = ap (λ (a : BoxArea). site_at a k) (sym c.area-area.ensures.area) ∙ is.site in
    let tile : tile_at grid.tiles (neighbor m d) ≡ Some c.in-Some-tile.tile = ap (tile_at grid.tiles) (sym own) ∙ sym c.tile.ensures ∙ c.in-Some-tile.is in
    let stands = stands_behind sys grid c.requires.can k c.args.number m d c.in-Some-tile.tile c.requires.side c.requires.number there tile in
    let strength = c.between.ensures (standing sys grid.tiles c.args.number) m (sym stands) in
    omega (arith, strength, c.from.ensures)
