use Rattle.std.proofs.Common.{sym, ◌∙◌}
use Rattle.design.specs.TileSets.{cell_site}
use Rattle.turing_compile.proofs.TypesShown.{tile_listed}
use Rattle.turing_compile.proofs.reading.tile_shown.Goals as goal

pub type_shown-requires-clause-tile : goal.type_shown-requires-clause-tile
type_shown-requires-clause-tile c =
    tile_listed c.args.machine.now c.args.grid.now.tiles (cell_site c.args.column c.args.y) c.in_ok-tile.tile c.args.listed.now c.requires.fits c.requires.listed
    (sym c.tile_in.ensures ∙ c.in_ok-tile.was)
