use Rattle.std.proofs.Common.{◌≡◌, replicate, None}
use Rattle.std.specs.Vec.{vec_capacity}
use Rattle.grow_core.proofs.scouts.Scouts.make.Given as goal

-- no scout so far
abbrev pub invariant-loop : goal.invariant-loop
invariant-loop l = record {
  entries : l.entries.items ≡ replicate l.counter None;
  room : vec_capacity l.entries ≡ 64;
}
