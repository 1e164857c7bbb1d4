use Rattle.std.proofs.Common.{◌≡◌, take}
use Rattle.replay_order.specs.Inner.Spans.{HaveStood}
use Rattle.replay_order.proofs.canonical.stand_seeds.Given as goal

-- those of the seeds so far that are at sites from the first one on stand, and the sites of the set are those that are ready
abbrev pub invariant-loop-seed : goal.invariant-loop-seed
invariant-loop-seed l = record {
  same_first : l.waiting.first ≡ l.fn.waiting.first;
  same_end : l.waiting.end ≡ l.fn.waiting.end;
  stood : HaveStood l.bonds l.grid.tiles l.first (take l.seed-index l.bonds.seeds) 0 l.waiting;
}
