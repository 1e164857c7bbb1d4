use Rattle.std.proofs.Common.{◌≤◌, length}
use Rattle.atam.specs.Assembly.{Fits}
use Rattle.worked_systems.proofs.places.sequence_of.Given as goal

-- the places so far fit the system
abbrev pub invariant-loop-spot : goal.invariant-loop-spot
invariant-loop-spot l = record {
  fits : Fits l.sys l.order;
  few : length l.order ≤ l.spot-index;
}
