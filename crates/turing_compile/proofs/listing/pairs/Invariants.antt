use Rattle.std.proofs.Common.{◌≡◌, length}
use Rattle.design.proofs.Listings.{pairs_from}
use Rattle.turing_compile.proofs.listing.pairs.Given as goal

-- the pairs of the states so far
abbrev pub invariant-loop-state : goal.invariant-loop-state
invariant-loop-state l = l.pairs.items ≡ pairs_from (length l.machine.symbols) 0 l.state
