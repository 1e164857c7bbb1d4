use Rattle.std.proofs.lemmas.Result.{err_from_is_err_and}
use Rattle.tile_io.proofs.Printing.{Prints-then, Prints-stopped}
use Rattle.job_board.specs.AnswerText.{growth_text}
use Rattle.tilebench.specs.Inner.Rooms.{outcome_of}
use Rattle.tilebench.proofs.commands.watch.WatchedReply.print.Goals as goal

pub returns-in_err-print_frames : goal.returns-in_err-print_frames
returns-in_err-print_frames g c =
    let growth = c.args.self.now.growth in
    let p = err_from_is_err_and c.from_residual.result c.from_residual.ensures.1 in
    rw p.1 (Prints-stopped (growth_text growth.sys (outcome_of growth)) c.in_err-print_frames.ensures)

pub returns : goal.returns
returns g c = Prints-then c.print.result c.in_ok-print_frames.ensures c.print.ensures
