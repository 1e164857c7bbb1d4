use Rattle.std.proofs.Common.{◌≡◌}
use Rattle.atam.specs.Assembly.{Fits}
use Rattle.worked_systems.proofs.places.grid_of.Given as goal

-- the grid fits the system
abbrev pub invariant-loop-spot : goal.invariant-loop-spot
invariant-loop-spot l = record {
  area : l.grid.area ≡ l.sys.area;
  fits : Fits l.sys l.grid.tiles;
}
