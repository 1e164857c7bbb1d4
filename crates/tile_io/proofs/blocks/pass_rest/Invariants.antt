use Rattle.std.proofs.Common.{◌-◌, ℕ, List}
use Rattle.tile_io.specs.Inner.Blocks.{Comes}
use Rattle.tile_io.proofs.blocks.pass_rest.Given as goal

-- so much came since the start
abbrev pub invariant-passing : goal.invariant-passing
invariant-passing g l = record {
  more : List ℕ;
  comes : Comes g.S.Source.left g.S.Source.faults l.fn.came l.came more l.initial.source l.source;
}

abbrev pub decreases-passing : goal.decreases-passing
decreases-passing g l = 67108865 - l.came
