use Rattle.tile_io.proofs.Progress.{start_is_mark}
use Rattle.tile_io.proofs.mark.Mark.start.Goals as goal

pub returns-clause-mark : goal.returns-clause-mark
returns-clause-mark c = start_is_mark
