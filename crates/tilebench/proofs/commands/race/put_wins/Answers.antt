use Rattle.std.proofs.lemmas.Result.{err_from_is_err_and}
use Rattle.tile_io.proofs.Printing.{PassesOn-next, PassesOn-halted}
use Rattle.tilebench.specs.declared.wins.Win.{Win}
use Rattle.tilebench.specs.Inner.Races.{win_line}
use Rattle.tilebench.proofs.commands.race.put_wins.Goals as goal

-- what stands past the end of the wins
abbrev no_win : Win
no_win = record { worker = 0; count = 0 }

pub returns-in_err-put_win : goal.returns-in_err-put_win
returns-in_err-put_win g c =
    let p = err_from_is_err_and c.from_residual.result c.from_residual.ensures.1 in
    rw p.1 (PassesOn-halted win_line c.args.wins.now c.loop-win.win-index no_win c.loop-win-test.true c.loop-win.invariant c.in_err-put_win.ensures)

pub loop-win-preserved : goal.loop-win-preserved
loop-win-preserved g c = PassesOn-next win_line c.args.wins.now c.loop-win.win-index no_win c.loop-win-test.true c.loop-win.invariant c.in_ok-put_win.ensures
