use Rattle.std.proofs.lemmas.Result.{err_from_is_err_and}
use Rattle.tile_io.proofs.Printing.{Prints-then, Prints-stopped}
use Rattle.seq_text.specs.VerdictLines.{verdict_line}
use Rattle.tilebench.proofs.commands.check.print_legal.Goals as goal

pub returns-in_err-print_legality : goal.returns-in_err-print_legality
returns-in_err-print_legality g c =
    let p = err_from_is_err_and c.from_residual.result c.from_residual.ensures.1 in
    rw p.1 (Prints-stopped (verdict_line c.args.sys.now c.args.verdict.now) c.in_err-print_legality.ensures)

pub returns : goal.returns
returns g c = Prints-then c.print_verdict.result c.in_ok-print_legality.ensures c.print_verdict.ensures
