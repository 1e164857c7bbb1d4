use Rattle.std.proofs.Common.{◌<◌, ◌∙◌, ap, sym, subst}
use Rattle.atam.specs.declared.area.BoxArea.{BoxArea}
use Rattle.atam.specs.Placements.{tile_at}
use Rattle.assembly.specs.Cells.{cell_count, site_at}
use Rattle.frontier_seat.proofs.Listing.{empty_around, frontier_more, frontier_passed, none_from}
use Rattle.frontier_seat.proofs.work_list.WorkList.list_tile.Goals as goal

pub returns-then-is_none-clause-lists : goal.returns-then-is_none-clause-lists
returns-then-is_none-clause-lists c =
    frontier_passed c.args.self.now.area c.args.grid.now.tiles c.args.spot.site c.args.spot.number c.args.self.now.numbers c.requires.spot.site c.requires.before
    (none_from c.tile.result (tile_at c.args.grid.now.tiles c.args.spot.site) _
    (c.tile.ensures ∙ ap (tile_at c.args.grid.now.tiles) (ap (λ (a : BoxArea). site_at a c.args.spot.number) c.requires.area ∙ c.requires.spot.site)) c.is_none.ensures c.if-is_none.true)

pub returns-clause-empty : goal.returns-clause-empty
returns-clause-empty c =
    empty_around c.args.self.now.area c.args.grid.now.tiles c.args.spot.site c.args.self.now.numbers c.list_around.new.self.numbers c.requires.empty c.list_around.ensures.lists

pub returns-clause-lists : goal.returns-clause-lists
returns-clause-lists c =
    frontier_more c.args.self.now.area c.args.grid.now.tiles c.args.spot.site c.args.spot.number c.args.self.now.numbers c.list_around.new.self.numbers c.requires.spot.site c.requires.before c.list_around.ensures.lists

pub tile-requires : goal.tile-requires
tile-requires c = subst (λ (a : BoxArea). c.args.spot.number < cell_count a) (sym c.requires.area) c.requires.spot.within
