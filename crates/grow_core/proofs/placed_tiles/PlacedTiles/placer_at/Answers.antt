use Rattle.std.proofs.Common.{◌≡◌, ◌<◌, Some, None, sym, ◌∙◌, ap}
use Rattle.std.specs.Vec.{vec_capacity}
use Rattle.atam.specs.Placements.{tile_at}
use Rattle.assembly.specs.Cells.{site_at, cell_count}
use Rattle.grow_core.specs.Core.{places}
use Rattle.grow_core.specs.Machine.{placer_at}
use Rattle.grow_core.specs.Inner.Tables.{BoxedTiles}
use Rattle.grow_core.proofs.Tables.{placer_at-none, table_inside, table_placer}
use Rattle.grow_core.proofs.placed_tiles.PlacedTiles.placer_at.Goals as goal

pub returns-in_err-at : goal.returns-in_err-at
returns-in_err-at c =
    let empty : tile_at (places c.self.inside.tiles.items) c.args.site ≡ None = c.self.invariant.same c.args.site ∙ (sym c.at.ensures.tile ∙ c.in_err-at.was) in
    c.from_residual.ensures ∙ (sym (placer_at-none c.self.inside.tiles.items c.args.site empty) ∙ ap (λ (b : BoxedTiles). placer_at b.tiles c.args.site) c.self.view_is)

pub site_index-requires-clause-inside : goal.site_index-requires-clause-inside
site_index-requires-clause-inside c =
    let there : tile_at (places c.self.inside.tiles.items) c.args.site ≡ Some c.in_ok-at.field-0 = c.self.invariant.same c.args.site ∙ (sym c.at.ensures.tile ∙ c.in_ok-at.was) in
    rw c.area.ensures.area (table_inside c.self.inside.tiles.items c.self.inside.grid c.self.inside.placers.items (vec_capacity c.self.inside.tiles) c.self.invariant c.args.site c.in_ok-at.field-0 there)

pub returns : goal.returns
returns c =
    let there : tile_at (places c.self.inside.tiles.items) c.args.site ≡ Some c.in_ok-at.field-0 = c.self.invariant.same c.args.site ∙ (sym c.at.ensures.tile ∙ c.in_ok-at.was) in
    let index : site_at c.self.inside.grid.area c.site_index.result ≡ c.args.site = rw (← c.area.ensures.area) c.site_index.ensures.site in
    let within : c.site_index.result < cell_count c.self.inside.grid.area = rw (← c.area.ensures.area) c.site_index.ensures.within in
    table_placer c.self.inside.tiles.items c.self.inside.grid c.self.inside.placers.items (vec_capacity c.self.inside.tiles) c.self.invariant c.args.site c.in_ok-at.field-0
    c.site_index.result c.index.result.now there index within c.index.ensures
    ∙ ap (λ (b : BoxedTiles). placer_at b.tiles c.args.site) c.self.view_is
