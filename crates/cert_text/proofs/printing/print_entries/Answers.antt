use Rattle.tile_io.proofs.Printing.{Prints-flushed}
use Rattle.cert_text.proofs.printing.print_entries.Goals as goal

pub returns : goal.returns
returns g c = Prints-flushed c.flush.result c.new-chunk.ensures c.in_ok-put_marks.ensures c.flush.ensures.bytes
