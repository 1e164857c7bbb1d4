use Rattle.std.proofs.Common.{[], ◌∷◌, ◌++◌}
use Rattle.atam.proofs.Sequences.{Fits-push}
use Rattle.atam.proofs.Opening.{Fits-part}
use Rattle.worked_systems.proofs.places.put_fitting.Goals as goal

pub returns-then-is_none-clause-fits : goal.returns-then-is_none-clause-fits
returns-then-is_none-clause-fits c =
    Fits-part c.args.sys.now c.put.new.self.tiles (c.args.grid.now.tiles ++ c.in-Some.place ∷ []) c.put.ensures.placements.whole
    (Fits-push c.args.sys.now c.args.grid.now.tiles c.in-Some.place c.requires.fits c.in-Some.ensures.kind c.in-Some.ensures.inside)
