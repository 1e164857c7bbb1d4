use Rattle.tile_io.specs.Checks.{nothing_more}
use Rattle.tile_io.proofs.Laws.{reads_or_fails}
use Rattle.tile_io.proofs.read_or_fault.law_read_or_fault.Goals as goal

pub returns : goal.returns
returns g c = record { any = λ format. reads_or_fails format; nothing_more = reads_or_fails nothing_more }
