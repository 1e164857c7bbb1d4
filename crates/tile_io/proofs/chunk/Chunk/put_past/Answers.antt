use Rattle.tile_io.proofs.Printing.{PassesOn-past}
use Rattle.tile_io.proofs.chunk.Chunk.put_past.Goals as goal

pub returns : goal.returns
returns g c = PassesOn-past c.write_all.result c.in_ok-flush.ensures.empty c.in_ok-flush.ensures.bytes c.write_all.ensures
