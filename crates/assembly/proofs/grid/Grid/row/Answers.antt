use Rattle.std.proofs.Common.{◌<◌, ◌∙◌, ◌+◌, ◌-◌, ◌*◌, ℕ, List, ap, drop, get_or, subst, sym, take}
use Rattle.atam.specs.Sites.{height_of, site_in, width_of}
use Rattle.atam.specs.Placements.{tile_at}
use Rattle.assembly.specs.Grids.{TileGrid}
use Rattle.assembly.specs.Inner.GridCells.{type_in}
use Rattle.assembly.proofs.Rows.{row_cell}
use Rattle.assembly.proofs.grid.Grid.row.Goals as goal

pub returns-clause-cells : goal.returns-clause-cells
returns-clause-cells c column below =
    let area = c.self.inside.area in
    let row = c.args.row in
    let width = c.width-width.result in
    let view = c.self.view_is in
    let narrow = subst (λ (g : TileGrid). column < width_of g.area) (sym view) below in
    let low = subst (λ (g : TileGrid). row < height_of g.area) (sym view) c.requires in
    let same = ap (λ (cells : List ℕ). type_in (get_or (take (row * width + width - row * width) (drop (row * width) cells)) column 0)) c.as_slice.ensures.value in
    same ∙ row_cell area c.self.inside.cells.items c.self.inside.count c.self.invariant column row width c.width-width.ensures narrow low
    ∙ ap (λ (g : TileGrid). tile_at g.tiles (site_in g.area column row)) view
