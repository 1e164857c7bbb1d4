use Rattle.std.proofs.Common.{◌≡◌, ◌≤◌, ◌+◌, ◌-◌, ◌/◌, ◌++◌, ◌∷◌, [], ℕ, List, length, refl, sym, ◌∙◌, ap, subst, arith}
use Rattle.std.proofs.Math.Nat.{div-le_self, div-one}
use Rattle.std.proofs.lemmas.List.{length_push}
use Rattle.fan_out.specs.declared.portions.Portion.{Portion}
use Rattle.fan_out.specs.Portions.{InARow}
use Rattle.fan_out.specs.Inner.Portions.{IsPortion}
use Rattle.fan_out.proofs.InARow.{row_push}
use Rattle.fan_out.proofs.portions.portions_of.Goals as goal

pub loop-worker-preserved : goal.loop-worker-preserved
loop-worker-preserved c =
    let old = c.loop-worker.portions.items in
    let worker = c.loop-worker.worker in
    let start = c.loop-worker.start in
    let left = c.args.end - start in
    let share = left / (c.get-workers.result - worker) in
    let next = start + share in
    let most : share ≤ left = div-le_self left (c.get-workers.result - worker) in
    let p : Portion = record { worker = worker; start = start; end = next } in
    let At : ℕ → Type 0 = λ w. IsPortion w start next p in
    let pushed : InARow IsPortion 0 0 next (old ++ p ∷ []) =
    row_push IsPortion 0 0 start next old p c.loop-worker.invariant.row (omega arith) (subst At {x = worker} (omega (arith, c.loop-worker.invariant.count)) refl)
    in
    record {
      below = omega (arith, c.loop-worker-test.true);
      count = omega (arith, ap length c.in_ok-push.ensures.items, length_push old p, c.loop-worker.invariant.count);
      within = omega (arith, most, c.loop-worker.invariant.within);
      all = λ last.
          let one : c.get-workers.result - worker ≡ 1 = omega (arith, last) in
          let whole : share ≡ left = ap (λ n. left / n) one ∙ div-one left in
          omega (arith, whole, c.loop-worker.invariant.within);
      row = subst (λ (l : List Portion). InARow IsPortion 0 0 next l) (sym c.in_ok-push.ensures.items) pushed;
    }
