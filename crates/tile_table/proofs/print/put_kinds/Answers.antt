use Rattle.std.proofs.Common.{ap, ◌∙◌}
use Rattle.std.proofs.lemmas.Result.{err_from_is_err_and}
use Rattle.tile_io.proofs.Printing.{PassesOn-next, PassesOn-halted, PassesOn-text}
use Rattle.tile_table.proofs.TableSpelled.{kind_text}
use Rattle.tile_table.proofs.print.put_kinds.Goals as goal

pub returns-in_err-put : goal.returns-in_err-put
returns-in_err-put g c =
    let p = err_from_is_err_and c.from_residual.result c.from_residual.ensures.1 in
    let line = kind_text (g.T.Table.tiles c.args.table.now) in
    let text = c.as_slice.ensures ∙ c.set_kind_line.ensures ∙ ap line c.kind-item.is in
    rw p.1 (PassesOn-halted line c.args.kinds.now c.loop-kind.kind-index c.kind-item.result c.loop-kind-test.true c.loop-kind.invariant (PassesOn-text text c.in_err-put.ensures))

pub loop-kind-preserved : goal.loop-kind-preserved
loop-kind-preserved g c =
    let line = kind_text (g.T.Table.tiles c.args.table.now) in
    let text = c.as_slice.ensures ∙ c.set_kind_line.ensures ∙ ap line c.kind-item.is in
    PassesOn-next line c.args.kinds.now c.loop-kind.kind-index c.kind-item.result c.loop-kind-test.true c.loop-kind.invariant (PassesOn-text text c.in_ok-put.ensures)
