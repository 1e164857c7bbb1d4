use Rattle.std.proofs.Common.{◌≡◌, ◌<◌, ◌≤◌, ℕ, length, take, slice_index}
use Rattle.assembly.specs.Cells.{cell_count, site_at}
use Rattle.replay_order.specs.Inner.Replays.{due_at}
use Rattle.replay_order.proofs.waiting.WaitingSites.make.Given as goal

-- in the span the seeds so far lack nothing, and each other tile the temperature; outside it none lacks anything
abbrev pub invariant-loop-seed : goal.invariant-loop-seed
invariant-loop-seed l = record {
  len : length l.lacks.items ≡ cell_count l.area;
  due : (i : ℕ) → l.first ≤ i → i < l.end → slice_index l.lacks.items i ≡ due_at (take l.seed-index l.seeds) l.tau (site_at l.area i);
  before : (i : ℕ) → i < l.first → slice_index l.lacks.items i ≡ 0;
  after : (i : ℕ) → l.end ≤ i → i < cell_count l.area → slice_index l.lacks.items i ≡ 0;
}
