use Rattle.std.proofs.Common.{◌<◌, ◌∙◌, ap, sym, subst}
use Rattle.atam.specs.declared.area.BoxArea.{BoxArea}
use Rattle.atam.specs.Placements.{tile_at}
use Rattle.assembly.specs.Cells.{cell_count, site_at}
use Rattle.frontier_seat.proofs.inside.tile_next.Goals as goal

pub tile-requires : goal.tile-requires
tile-requires c = subst (λ (a : BoxArea). c.number_next.result < cell_count a) (sym c.requires.area) c.number_next.ensures.within

pub returns : goal.returns
returns c =
    c.tile.ensures ∙ ap (λ (a : BoxArea). tile_at c.args.grid.now.tiles (site_at a c.number_next.result)) c.requires.area ∙ ap (tile_at c.args.grid.now.tiles) c.number_next.ensures.site
