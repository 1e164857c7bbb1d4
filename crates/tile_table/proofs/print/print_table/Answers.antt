use Rattle.std.proofs.Common.{[], append-nil}
use Rattle.std.proofs.lemmas.Result.{err_from_is_err_and}
use Rattle.tile_io.proofs.Printing.{Prints-flushed, Prints-lost, Prints-text}
use Rattle.tile_table.proofs.print.print_table.Goals as goal

pub returns-in_err-put_table : goal.returns-in_err-put_table
returns-in_err-put_table g c =
    let p = err_from_is_err_and c.from_residual.result c.from_residual.ensures.1 in
    rw p.1 (Prints-text (append-nil _) (Prints-lost [] c.new-chunk.ensures c.in_err-put_table.ensures))

pub returns : goal.returns
returns g c = Prints-flushed c.flush.result c.new-chunk.ensures c.in_ok-put_table.ensures c.flush.ensures.bytes
