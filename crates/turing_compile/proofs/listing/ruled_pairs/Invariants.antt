use Rattle.std.proofs.Common.{◌≡◌, take, filter}
use Rattle.turing_compile.specs.Inner.Listed.{has_rule}
use Rattle.turing_compile.proofs.listing.ruled_pairs.Given as goal

-- those among the pairs so far
abbrev pub invariant-loop-state : goal.invariant-loop-state
invariant-loop-state l = l.ruled.items ≡ filter (has_rule l.machine) (take l.state-index l.all)
