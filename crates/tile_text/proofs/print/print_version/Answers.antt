use Rattle.std.proofs.Common.{[], append-nil}
use Rattle.std.proofs.lemmas.Result.{err_from_is_err_and}
use Rattle.tile_io.proofs.Printing.{Prints-flushed, Prints-lost, Prints-text}
use Rattle.tile_text.proofs.print.print_version.Goals as goal

pub returns-in_err-put_system-clause-printed : goal.returns-in_err-put_system-clause-printed
returns-in_err-put_system-clause-printed g c =
    let p = err_from_is_err_and c.from_residual.result c.from_residual.ensures.1 in
    rw p.1 (Prints-text (append-nil _) (Prints-lost [] c.new-chunk.ensures c.in_err-put_system.ensures.passed))

pub returns-clause-printed : goal.returns-clause-printed
returns-clause-printed g c = Prints-flushed c.flush.result c.new-chunk.ensures c.in_ok-put_system.ensures.passed c.flush.ensures.bytes
