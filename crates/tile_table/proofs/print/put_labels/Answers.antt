use Rattle.std.proofs.Common.{ap, ◌∙◌}
use Rattle.std.proofs.lemmas.Result.{err_from_is_err_and}
use Rattle.tile_io.proofs.Printing.{PassesOn-next, PassesOn-halted, PassesOn-text}
use Rattle.tile_table.proofs.TableSpelled.{label_text}
use Rattle.tile_table.proofs.print.put_labels.Goals as goal

pub returns-in_err-put : goal.returns-in_err-put
returns-in_err-put g c =
    let p = err_from_is_err_and c.from_residual.result c.from_residual.ensures.1 in
    let line = label_text (g.T.Table.tiles c.args.table.now) in
    let text = c.as_slice.ensures ∙ c.set_label_line.ensures ∙ ap line c.label-item.is in
    rw p.1 (PassesOn-halted line c.args.labels.now c.loop-label.label-index c.label-item.result c.loop-label-test.true c.loop-label.invariant (PassesOn-text text c.in_err-put.ensures))

pub loop-label-preserved : goal.loop-label-preserved
loop-label-preserved g c =
    let line = label_text (g.T.Table.tiles c.args.table.now) in
    let text = c.as_slice.ensures ∙ c.set_label_line.ensures ∙ ap line c.label-item.is in
    PassesOn-next line c.args.labels.now c.loop-label.label-index c.label-item.result c.loop-label-test.true c.loop-label.invariant (PassesOn-text text c.in_ok-put.ensures)
