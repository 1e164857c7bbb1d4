use Rattle.tile_io.proofs.Printing.{Prints-flushed}
use Rattle.picture.proofs.picture.print_picture.Goals as goal

pub returns : goal.returns
returns g c = Prints-flushed c.flush.result c.new-chunk.ensures c.in_ok-put_picture.ensures c.flush.ensures.bytes
