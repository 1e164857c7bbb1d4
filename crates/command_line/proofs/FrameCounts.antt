-- A number of frames is known by its number.
use Rattle.std.proofs.Common.{◌≡◌, ◌≤◌, ◌+◌, ◌-◌, ℕ, min, subst, arith}
use Rattle.std.proofs.Math.Bridge.{le_prop}
use Rattle.command_line.specs.declared.frame_count.FrameCount.{FrameCount}

abbrev so_many : (n : ℕ) → 1 ≤ n → n ≤ 1000 → FrameCount
so_many n some few = record { count = n; some = some; few = few }

same_bounds : (n k : ℕ) → n ≡ k → (some : 1 ≤ n) (few : n ≤ 1000) (some_too : 1 ≤ k) (few_too : k ≤ 1000) → so_many n some few ≡ so_many k some_too few_too
same_bounds n k same some few =
    let Same : ℕ → Type 0 = λ m. (some_too : 1 ≤ m) (few_too : m ≤ 1000) → so_many n some few ≡ so_many m some_too few_too in
    subst Same same (λ some_too few_too i. so_many n (le_prop some some_too i) (le_prop few few_too i))

same_frames : (a b : FrameCount) → a.count ≡ b.count → a ≡ b
same_frames a b same = same_bounds a.count b.count same a.some a.few b.some b.few

-- the number of frames that is nearest to a number
pub nearest_frames : ℕ → FrameCount
nearest_frames n = record { count = 1 + min (n - 1) 999; some = omega arith; few = omega arith }

-- which it is itself, if it is one
pub nearest_frames_itself : (frames : FrameCount) → nearest_frames frames.count ≡ frames
unfolding nearest_frames
nearest_frames_itself frames =
    let some = frames.some in
    let few = frames.few in
    same_frames (nearest_frames frames.count) frames (omega (arith, some, few))
