use Rattle.std.proofs.Common.{ap, flat_map}
use Rattle.std.proofs.lemmas.Result.{err_from_is_err_and}
use Rattle.tile_io.proofs.Printing.{PassesOn-next, PassesOn-halted, PassesOn-text}
use Rattle.picture.specs.Pictures.{row_line}
use Rattle.picture.proofs.Rows.{rows_down, row_below, all_rows, row_is}
use Rattle.picture.proofs.picture.put_rows.Goals as goal

pub returns-in_err-put_row : goal.returns-in_err-put_row
returns-in_err-put_row g c =
    let grid = c.args.grid.now in
    let same = c.area.ensures.area in
    let less = c.loop-index-test.true in
    let p = err_from_is_err_and c.from_residual.result c.from_residual.ensures.1 in
    rw p.1 (PassesOn-halted (row_line grid) (rows_down grid) c.loop-index.index 0 (row_below grid _ same _ c.loop-index.index c.height-height.ensures less) c.loop-index.invariant
    (PassesOn-text (row_is grid _ same _ c.loop-index.index c.height-height.ensures less) c.in_err-put_row.ensures))

pub loop-index-preserved : goal.loop-index-preserved
loop-index-preserved g c =
    let grid = c.args.grid.now in
    let same = c.area.ensures.area in
    let less = c.loop-index-test.true in
    PassesOn-next (row_line grid) (rows_down grid) c.loop-index.index 0 (row_below grid _ same _ c.loop-index.index c.height-height.ensures less) c.loop-index.invariant
    (PassesOn-text (row_is grid _ same _ c.loop-index.index c.height-height.ensures less) c.in_ok-put_row.ensures)

pub returns : goal.returns
returns g c =
    let grid = c.args.grid.now in
    PassesOn-text (ap (flat_map (row_line grid)) (all_rows grid _ c.area.ensures.area _ c.loop-index.index c.height-height.ensures c.loop-index-test.false c.loop-index.auto.index-end)) c.loop-index.invariant
