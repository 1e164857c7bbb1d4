use Rattle.std.proofs.Common.{◌≡◌, length}
use Rattle.type_index.proofs.reach.room_of.Given as goal

-- there is a number for each glue
abbrev pub invariant-loop-number : goal.invariant-loop-number
invariant-loop-number l = length l.room.items ≡ length l.sys.glues

abbrev pub invariant-loop-pair : goal.invariant-loop-pair
invariant-loop-pair l = length l.room.items ≡ length l.sys.glues

abbrev pub invariant-loop-number-2 : goal.invariant-loop-number-2
invariant-loop-number-2 l = length l.room.items ≡ length l.sys.glues
