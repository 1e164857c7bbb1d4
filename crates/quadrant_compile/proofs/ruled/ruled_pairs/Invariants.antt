use Rattle.std.proofs.Common.{◌≡◌, take, filter}
use Rattle.quadrant_compile.specs.Quadrants.{has_rule}
use Rattle.quadrant_compile.specs.Inner.SoFar.{quadrant_in}
use Rattle.quadrant_compile.proofs.ruled.ruled_pairs.Given as goal

-- those among the pairs so far
abbrev pub invariant-loop-west : goal.invariant-loop-west
invariant-loop-west l = l.ruled.items ≡ filter (has_rule (quadrant_in l.parts)) (take l.west-index l.west-items)
