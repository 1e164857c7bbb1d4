use Rattle.std.proofs.Common.{◌≡◌, ◌<◌, length, get_or, sym, ◌∙◌, ap, refl, arith}
use Rattle.std.proofs.lemmas.Grind.{get_or_default_zero}
use Rattle.atam.specs.Placements.{tile_at}
use Rattle.assembly.specs.Cells.{cell_count, site_at}
use Rattle.assembly.specs.Inner.GridCells.{type_in}
use Rattle.assembly.proofs.Grids.{grid_at}
use Rattle.assembly.proofs.grid.Grid.tile.Goals as goal

pub returns : goal.returns
returns c =
    let cells = c.self.inside.cells.items in
    let i = c.args.index in
    let counted : cell_count c.self.inside.area ≡ cell_count c.args.self.now.area = ap (λ v. cell_count v.area) c.self.view_is in
    let below : i < length cells = omega (arith, c.requires, counted, c.self.invariant.sites) in
    let cell : get_or cells i 0 ≡ c.index.result.now = sym (get_or_default_zero cells i c.index.result.now below) ∙ sym c.index.ensures in
    c.type_in.ensures ∙ sym (ap type_in cell) ∙ sym (grid_at c.self.inside.area cells c.self.inside.count c.self.invariant i (site_at c.self.inside.area i) refl below)
    ∙ ap (λ v. tile_at v.tiles (site_at v.area i)) c.self.view_is
