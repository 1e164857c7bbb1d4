use Rattle.std.proofs.lemmas.Result.{err_from_is_err_and}
use Rattle.tile_io.proofs.Printing.{Prints-then, Prints-stopped}
use Rattle.seq_text.specs.VerdictLines.{verdict_line}
use Rattle.tilebench.proofs.commands.load.print_end.Goals as goal

pub returns-in_err-print_closed : goal.returns-in_err-print_closed
returns-in_err-print_closed g c =
    let growth = c.args.growth.now in
    let p = err_from_is_err_and c.from_residual.result c.from_residual.ensures.1 in
    rw p.1 (Prints-stopped (verdict_line growth.sys growth.verdict) c.in_err-print_closed.ensures)

pub returns : goal.returns
returns g c = Prints-then c.print_verdict.result c.in_ok-print_closed.ensures c.print_verdict.ensures
