use Rattle.std.proofs.Common.{List, ap}
use Rattle.tile_io.proofs.Printing.{Prints-flushed, Prints-text}
use Rattle.tilebench.specs.declared.wins.Win.{Win}
use Rattle.tilebench.specs.Inner.Races.{race_text}
use Rattle.tilebench.proofs.commands.race.RacedReply.print.Goals as goal

pub returns : goal.returns
returns g c =
    Prints-text (ap (λ (wins : List Win). race_text wins c.args.self.now.total) c.deref.ensures.value)
    (Prints-flushed c.flush.result c.new-chunk.ensures c.in_ok-put_race.ensures c.flush.ensures.bytes)
