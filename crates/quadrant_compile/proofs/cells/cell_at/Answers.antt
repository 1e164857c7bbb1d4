use Rattle.std.proofs.Common.{is_some, ap, ◌∙◌}
use Rattle.quadrant_compile.proofs.CellReading.{cell_there, cell_shows}
use Rattle.quadrant_compile.proofs.cells.cell_at.Goals as goal

pub returns-clause-there : goal.returns-clause-there
returns-clause-there c = λ has.
    ap is_some c.tile_symbols.ensures ∙ cell_there c.args.quadrant.now c.symbols.ensures.valid c.args.grid.now.tiles has c.args.column c.args.row c.requires.first_column c.requires.first_row

pub returns-clause-recurrence : goal.returns-clause-recurrence
returns-clause-recurrence c = λ e n is growth.
    c.tile_symbols.ensures
    ∙ cell_shows c.args.quadrant.now c.symbols.ensures.valid c.args.grid.now.tiles e n is growth c.args.column c.args.row c.requires.first_column c.requires.last_column c.requires.first_row c.requires.last_row
