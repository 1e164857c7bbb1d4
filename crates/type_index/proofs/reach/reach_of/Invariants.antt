use Rattle.std.proofs.Common.{◌≡◌, length}
use Rattle.type_index.proofs.reach.reach_of.Given as goal

-- there is a number for each glue
abbrev pub invariant-loop-pair : goal.invariant-loop-pair
invariant-loop-pair l = length l.reach.items ≡ length l.sys.glues
