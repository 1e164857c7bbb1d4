use Rattle.tile_io.proofs.Printing.{Prints-flushed}
use Rattle.seq_text.proofs.verdict.print_verdict.Goals as goal

pub returns : goal.returns
returns g c = Prints-flushed c.flush.result c.new-chunk.ensures c.in_ok-put_verdict.ensures c.flush.ensures.bytes
