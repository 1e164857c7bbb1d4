use Rattle.std.proofs.Common.{subst, sym}
use Rattle.atam.specs.Assembly.{Fits}
use Rattle.assembly.specs.Grids.{TileGrid}
use Rattle.job_board.proofs.Told.{full_fits}
use Rattle.job_board.proofs.outcome.filled.Goals as goal

pub replay_producible-requires-clause-fits : goal.replay_producible-requires-clause-fits
replay_producible-requires-clause-fits g c =
    let sys = c.args.sys.now in
    let grown = c.in_ok-grown.grown in
    subst (λ (grid : TileGrid). Fits sys grid.tiles) (sym c.into_grid-grid.ensures) (full_fits sys grown.grid.tiles c.in_ok-grown.ensures.full)
