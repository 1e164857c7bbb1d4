use Rattle.replay_order.specs.Inner.Replays.{NoneLacksBelow}
use Rattle.replay_order.proofs.rest.least_left.Given as goal

-- at the sites so far no tile lacks anything
abbrev pub invariant-loop-index : goal.invariant-loop-index
invariant-loop-index l = NoneLacksBelow l.grid.tiles l.waiting l.index
