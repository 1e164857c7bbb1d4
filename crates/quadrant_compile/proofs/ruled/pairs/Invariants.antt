use Rattle.std.proofs.Common.{◌≡◌}
use Rattle.design.proofs.Listings.{pairs_from}
use Rattle.quadrant_compile.proofs.ruled.pairs.Given as goal

-- the pairs with the numbers so far
abbrev pub invariant-loop-west : goal.invariant-loop-west
invariant-loop-west l = l.pairs.items ≡ pairs_from l.symbols 0 l.west
