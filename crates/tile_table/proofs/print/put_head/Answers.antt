use Rattle.tile_io.proofs.Printing.{PassesOn-text}
use Rattle.tile_table.proofs.Lines.{head_line}
use Rattle.tile_table.proofs.print.put_head.Goals as goal

pub returns : goal.returns
returns g c = PassesOn-text head_line c.put.ensures
