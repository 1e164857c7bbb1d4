use Rattle.std.proofs.Common.{ℕ, List, Result, ap}
use Rattle.atam.specs.declared.event.Seen.{Seen}
use Rattle.atam.specs.declared.event.CoreStop.{CoreStop}
use Rattle.tile_io.proofs.Printing.{Prints-text, Prints-then}
use Rattle.seq_text.specs.SeenLines.{seen_lines}
use Rattle.tilebench.proofs.commands.schedule.ScheduledReply.print.Goals as goal

pub returns : goal.returns
returns g c =
    let replied : List (Result Seen CoreStop) → List ℕ = λ replies. seen_lines c.args.self.now.sys replies in
    Prints-then c.print_places.result (Prints-text (ap replied c.deref.ensures.value) c.in_ok-print_replies.ensures) c.print_places.ensures
