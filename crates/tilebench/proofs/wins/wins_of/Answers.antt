use Rattle.std.proofs.Common.{◌≡◌, ◌<◌, ◌+◌, ◌∷◌, [], ℕ, List, Some, length, length-append, subst, sym, ap, arith}
use Rattle.std.specs.Prelude.{slice_get, sum_by, slice_index}
use Rattle.tilebench.specs.declared.wins.Win.{Win}
use Rattle.tilebench.specs.Inner.Races.{won_together}
use Rattle.tilebench.proofs.Races.{together_more, wins_more}
use Rattle.tilebench.proofs.wins.wins_of.Goals as goal
use Rattle.grow_workers.specs.Workers.{worker_number}

pub loop-worker-preserved : goal.loop-worker-preserved
loop-worker-preserved c =
    let counts = c.args.grown.now.won in
    let wins = c.loop-worker.wins.items in
    let n = c.loop-worker.worker in
    let before = c.loop-worker.invariant in
    let win : Win = record { worker = n; count = c.won_by-count.result } in
    let items = c.in_ok-push.ensures.items in
    let same = ap length items in
    let longer = length-append wins (win ∷ []) in
    let many = before.count in
    let Each : List Win → Type 0 = λ l. (w : ℕ) → w < n + 1 → slice_get l w ≡ Some (record { worker = w; count = slice_index counts (worker_number w) }) in
    let Together : List Win → Type 0 = λ l. sum_by (λ (w : Win). w.count) l ≡ won_together counts (n + 1) in
    record {
      count = omega (arith, same, longer, many);
      each = subst Each (sym items) (wins_more counts wins n win before.count (ap (λ (k : ℕ). record { worker = n; count = k }) c.won_by-count.ensures) before.each);
      together = subst Together (sym items) (together_more counts wins n win c.won_by-count.ensures before.together);
    }
