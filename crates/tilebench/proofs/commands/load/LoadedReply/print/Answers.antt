use Rattle.std.proofs.Common.{◌++◌}
use Rattle.std.proofs.lemmas.Result.{err_from_is_err_and}
use Rattle.tile_io.proofs.Printing.{Prints-then, Prints-stopped}
use Rattle.seq_text.specs.GrowthLines.{closed_line}
use Rattle.seq_text.specs.VerdictLines.{verdict_line}
use Rattle.tilebench.proofs.commands.load.LoadedReply.print.Goals as goal

pub returns-in_err-print_sizes : goal.returns-in_err-print_sizes
returns-in_err-print_sizes g c =
    let growth = c.args.self.now.growth in
    let p = err_from_is_err_and c.from_residual.result c.from_residual.ensures.1 in
    rw p.1 (Prints-stopped (closed_line growth.sys growth.outside ++ verdict_line growth.sys growth.verdict) c.in_err-print_sizes.ensures)

pub returns : goal.returns
returns g c = Prints-then c.print_end.result c.in_ok-print_sizes.ensures c.print_end.ensures
