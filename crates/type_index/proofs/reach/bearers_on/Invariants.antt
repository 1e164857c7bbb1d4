use Rattle.std.proofs.Common.{◌≡◌, length}
use Rattle.type_index.proofs.reach.bearers_on.Given as goal

-- there is a number for each glue
abbrev pub invariant-loop-number : goal.invariant-loop-number
invariant-loop-number l = length l.bearers.items ≡ length l.sys.glues
