-- A number of workers is known by its number.
use Rattle.std.proofs.Common.{◌≡◌, ◌≤◌, ◌+◌, ◌-◌, ℕ, min, subst, arith}
use Rattle.std.proofs.Math.Bridge.{le_prop}
use Rattle.fan_out.specs.declared.worker_count.WorkerCount.{WorkerCount}

abbrev so_many : (n : ℕ) → 1 ≤ n → n ≤ 16 → WorkerCount
so_many n some few = record { count = n; some = some; few = few }

same_bounds : (n k : ℕ) → n ≡ k → (some : 1 ≤ n) (few : n ≤ 16) (some_too : 1 ≤ k) (few_too : k ≤ 16) → so_many n some few ≡ so_many k some_too few_too
same_bounds n k same some few =
    let Same : ℕ → Type 0 = λ m. (some_too : 1 ≤ m) (few_too : m ≤ 16) → so_many n some few ≡ so_many m some_too few_too in
    subst Same same (λ some_too few_too i. so_many n (le_prop some some_too i) (le_prop few few_too i))

pub same_count : (a b : WorkerCount) → a.count ≡ b.count → a ≡ b
same_count a b same = same_bounds a.count b.count same a.some a.few b.some b.few

-- the number of workers that is nearest to a number
pub nearest : ℕ → WorkerCount
nearest n = record { count = 1 + min (n - 1) 15; some = omega arith; few = omega arith }

-- which it is itself, if it is one
pub nearest_itself : (workers : WorkerCount) → nearest workers.count ≡ workers
unfolding nearest
nearest_itself workers =
    let some = workers.some in
    let few = workers.few in
    same_count (nearest workers.count) workers (omega (arith, some, few))
