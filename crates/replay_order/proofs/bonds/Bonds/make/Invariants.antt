use Rattle.replay_order.specs.Inner.SideGlues.{AreGluesOfFirst}
use Rattle.replay_order.proofs.bonds.Bonds.make.Given as goal

-- the glues of the types so far
abbrev pub invariant-loop-index : goal.invariant-loop-index
invariant-loop-index l = AreGluesOfFirst l.sys l.index l.glues.items
