use Rattle.tile_io.proofs.Printing.{Prints-flushed}
use Rattle.seq_text.proofs.closed.print_closed.Goals as goal

pub returns : goal.returns
returns g c = Prints-flushed c.flush.result c.new-chunk.ensures c.in_ok-put_closed.ensures c.flush.ensures.bytes
