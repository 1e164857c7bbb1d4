use Rattle.std.proofs.Common.{◌≡◌, ◌<◌, ℕ, length, Some}
use Rattle.std.specs.Prelude.{slice_get, sum_by, slice_index}
use Rattle.tilebench.specs.Inner.Races.{won_together}
use Rattle.tilebench.proofs.wins.wins_of.Given as goal
use Rattle.grow_workers.specs.Workers.{worker_number}

-- the wins so far
abbrev pub invariant-loop-worker : goal.invariant-loop-worker
invariant-loop-worker l = record {
  count : length l.wins.items ≡ l.worker;
  each : (w : ℕ) → w < l.worker → slice_get l.wins.items w ≡ Some (record { worker = w; count = slice_index l.grown.won (worker_number w) });
  together : sum_by (λ win. win.count) l.wins.items ≡ won_together l.grown.won l.worker;
}
