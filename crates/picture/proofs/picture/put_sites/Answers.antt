use Rattle.std.proofs.Common.{◌∙◌, ap, flat_map}
use Rattle.std.proofs.lemmas.Result.{err_from_is_err_and}
use Rattle.tile_io.proofs.Printing.{PassesOn-next, PassesOn-halted, PassesOn-text}
use Rattle.picture.proofs.Rows.{cell_text, columns, cells_are_sites, column_within, all_columns, cell_is}
use Rattle.picture.proofs.picture.put_sites.Goals as goal

pub returns-in_err-put : goal.returns-in_err-put
returns-in_err-put g c =
    let grid = c.args.grid.now in
    let same = c.area-area.ensures.area in
    let less = c.loop-column-test.true in
    let p = err_from_is_err_and c.from_residual.result c.from_residual.ensures.1 in
    rw p.1 (PassesOn-text (cells_are_sites grid c.args.row)
    (PassesOn-halted (cell_text grid c.args.row) (columns grid) c.loop-column.column 0 (column_within grid _ same _ c.loop-column.column c.width-column-end.ensures less) c.loop-column.invariant
    (PassesOn-text (cell_is grid _ same c.args.row _ c.loop-column.column _ _ c.width-column-end.ensures less c.site.ensures.value c.site_character.ensures) c.in_err-put.ensures)))

pub loop-column-preserved : goal.loop-column-preserved
loop-column-preserved g c =
    let grid = c.args.grid.now in
    let same = c.area-area.ensures.area in
    let less = c.loop-column-test.true in
    PassesOn-next (cell_text grid c.args.row) (columns grid) c.loop-column.column 0 (column_within grid _ same _ c.loop-column.column c.width-column-end.ensures less) c.loop-column.invariant
    (PassesOn-text (cell_is grid _ same c.args.row _ c.loop-column.column _ _ c.width-column-end.ensures less c.site.ensures.value c.site_character.ensures) c.in_ok-put.ensures)

pub returns : goal.returns
returns g c =
    let grid = c.args.grid.now in
    PassesOn-text (ap (flat_map (cell_text grid c.args.row)) (all_columns grid _ c.area-area.ensures.area _ c.loop-column.column c.width-column-end.ensures c.loop-column-test.false c.loop-column.auto.column-end) ∙ cells_are_sites grid c.args.row)
    c.loop-column.invariant
