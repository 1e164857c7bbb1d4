use Rattle.std.proofs.Common.{◌≡◌, ◌≤◌, ◌<◌, ◌+◌, ℕ, length, slice_index}
use Rattle.grow_workers.proofs.rounds.add_wins.Given as goal

-- the wins of the workers so far are added, and those of the others are as they were
abbrev pub invariant-loop-worker : goal.invariant-loop-worker
invariant-loop-worker l = record {
  count : length l.wins.items ≡ length l.fn.wins.items;
  done : (i : ℕ) → i < l.worker → slice_index l.wins.items i ≡ slice_index l.fn.wins.items i + slice_index l.more.items i;
  rest : (i : ℕ) → l.worker ≤ i → slice_index l.wins.items i ≡ slice_index l.fn.wins.items i;
}
