-- The numbers of a scout as bits, and lists of tiles by their numbers.
use Rattle.std.proofs.Common.{◌≡◌, ◌≢◌, ◌⊎◌, ◌<◌, ◌≤◌, ◌+◌, min, ◌-◌, ◌*◌, ◌^◌, ◌==◌, ℕ, suc, true, not, max, List, [], ◌∷◌, filter, Contains, eq-eqb, ne_eqb, refl, sym, ◌∙◌, ap, subst, inl, inr, arith, lit≤, bit_or}
use Rattle.std.specs.Int.{bit_at, w64}
use Rattle.std.proofs.Math.Nat.{pow-suc}
use Rattle.std.proofs.lemmas.Nat.{leading_top}
use Rattle.std.proofs.lemmas.Nat.Bits.{bit_at-lt, bit_at_above, bit_at_cat_low, bit_at_cat_high, bit_at-pow_same, bit_at-pow_other, bit_at_or, bit_at-zero, bit_at_ones, bit_at-trailing_zeros}
use Rattle.std.proofs.lemmas.Bool.{false≢true}
use mathlib.Core.Logic.{dite}
use native.Mathlib.Decide.{ℕ_discrete, dec_lt}
use Rattle.grow_core.specs.declared.placed_tile.PlacedTile.{PlacedTile}
use Rattle.grow_core.specs.Core.{Owns, least, greatest, placed_by}
use Rattle.atam.proofs.Lists.{Contains-here, Contains-there}

-- where the greatest number stands
pub record IsTop (owned : ℕ) : Type 0 where
  pub low : 2 ^ greatest owned ≤ owned
  pub high : owned < 2 ^ greatest owned + 2 ^ greatest owned
  pub within : greatest owned < 64

pub top : (owned : ℕ) → 0 < owned → owned < 2 ^ 64 → IsTop owned
top owned some_number small =
    let t = leading_top 64 owned some_number small in
    let count = t.1 in
    let is : greatest owned ≡ t.0 = omega arith in
    let above : owned < 2 ^ t.0 * 2 = subst (λ n. owned < n) (pow-suc 2 t.0) t.3 in
    record { low = rw is t.2; high = rw is (omega (arith, above)); within = rw is (omega arith) }

module _ (owned : ℕ) (is_top : IsTop owned) where
  abbrev g : ℕ
  g = greatest owned

  abbrev left : ℕ
  left = owned - 2 ^ g

  whole : owned ≡ 1 * 2 ^ g + left
  whole = let a = is_top.low in omega arith

  left_small : left < 2 ^ g
  left_small = let a = is_top.low in let b = is_top.high in omega arith

  one_bit : bit_at 1 0 ≡ 1
  one_bit = refl

  pub greatest-owned : Owns owned g
  greatest-owned = let z : g - g ≡ 0 = omega arith in
      subst (λ n. bit_at n g ≡ 1) (sym whole) (bit_at_cat_high 1 g left g left_small (omega arith) ∙ ap (bit_at 1) z)

  -- it is the greatest
  pub most : (n : ℕ) → Owns owned n → n ≤ g
  most n own = dite (dec_lt g n)
      (λ l. let above : owned < 2 ^ suc g = subst (λ x. owned < x) (sym (pow-suc 2 g)) (let b = is_top.high in omega arith) in
      let zero_bit = bit_at_above owned (suc g) n above (omega (arith, l)) in absurd (omega (arith, own, zero_bit)))
      (λ f. omega (arith, f))

  pub left-owned : (n : ℕ) → Owns left n → Owns owned n
  left-owned n own = dite (dec_lt n g)
      (λ l. subst (λ x. bit_at x n ≡ 1) (sym whole) (bit_at_cat_low 1 g left n l ∙ own))
      (λ f. let zero_bit = bit_at_above left g n left_small (omega arith) in absurd (omega (arith, own, zero_bit)))

  pub left-other : (n : ℕ) → Owns left n → n ≢ g
  left-other n own e = let zero_bit = bit_at_above left g n left_small (omega arith) in omega (arith, own, zero_bit)

  pub left-owns : (n : ℕ) → Owns owned n → n ≢ g → Owns left n
  left-owns n own other = dite (dec_lt n g)
      (λ l. sym (bit_at_cat_low 1 g left n l) ∙ subst (λ x. bit_at x n ≡ 1) whole own)
      (λ f. let above : owned < 2 ^ suc g = subst (λ x. owned < x) (sym (pow-suc 2 g)) (let b = is_top.high in omega arith) in
      let zero_bit = bit_at_above owned (suc g) n above (omega arith) in absurd (omega (arith, own, zero_bit)))

  pub alone : (n : ℕ) → Owns (2 ^ g) n → n ≡ g
  alone n own = dite (ℕ_discrete n g) (λ e. e) (λ f. let zero_bit = bit_at-pow_other g n f in absurd (omega (arith, own, zero_bit)))

  pub owns_itself : Owns (2 ^ g) g
  owns_itself = bit_at-pow_same g

-- the numbers of two scouts together
pub both-owned : (a b n : ℕ) → Owns (bit_or a b) n → Owns a n ⊎ Owns b n
both-owned a b n own = let m : max (bit_at a n) (bit_at b n) ≡ 1 = sym (bit_at_or a b n) ∙ own in
    let s = bit_at-lt a n in let t = bit_at-lt b n in
    dite (ℕ_discrete (bit_at a n) 1) (λ e. inl e) (λ f. inr (omega arith))

pub owns-none : (n : ℕ) → Owns 0 n → ⊥
owns-none n own = let z = bit_at-zero n in omega (arith, own, z)

-- the tiles of a number, among those of that number, and among those of others
pub by_itself : (n : ℕ) (xs : List PlacedTile) → placed_by n (placed_by n xs) ≡ placed_by n xs
by_itself n [] = refl
by_itself n (x ∷ xs) = dite (ℕ_discrete x.placer n)
    (λ e. rw (eq-eqb x.placer n e) (rw (eq-eqb x.placer n e) (ap (λ l. x ∷ l) (by_itself n xs))))
    (λ f. rw (ne_eqb x.placer n f) (by_itself n xs))

pub by_other : (n k : ℕ) (xs : List PlacedTile) → n ≢ k → placed_by n (filter (λ t. not (t.placer == k)) xs) ≡ placed_by n xs
by_other n k [] other = refl
by_other n k (x ∷ xs) other = dite (ℕ_discrete x.placer k)
    (λ e. rw (eq-eqb x.placer k e, ne_eqb x.placer n (λ f. other (sym f ∙ e))) (by_other n k xs other))
    (λ f. dite (ℕ_discrete x.placer n)
    (λ e. rw (ne_eqb x.placer k f, eq-eqb x.placer n e) (ap (λ l. x ∷ l) (by_other n k xs other)))
    (λ h. rw (ne_eqb x.placer k f, ne_eqb x.placer n h) (by_other n k xs other)))

pub by_none : (n : ℕ) (xs : List PlacedTile) → ((t : PlacedTile) → Contains xs t → t.placer ≢ n) → placed_by n xs ≡ []
by_none n [] none = refl
by_none n (x ∷ xs) none = rw (ne_eqb x.placer n (none x (Contains-here x xs))) (by_none n xs (λ t c. none t (Contains-there x t xs c)))

pub either-owns : (a b n : ℕ) → Owns a n ⊎ Owns b n → Owns (bit_or a b) n
either-owns a b n own = let s = bit_at-lt a n in let t = bit_at-lt b n in
    bit_at_or a b n ∙ (elim own as (λ _. max (bit_at a n) (bit_at b n) ≡ 1) [ inl one ↦ omega arith | inr two ↦ omega arith ])

pub neither-owns : (a b n : ℕ) → bit_at a n ≡ 0 → bit_at b n ≡ 0 → bit_at (bit_or a b) n ≡ 0
neither-owns a b n none_a none_b = bit_at_or a b n ∙ omega (arith, none_a, none_b)

pub is_equal : (a b : ℕ) → (a == b) ≡ true → a ≡ b
is_equal a b e = dite (ℕ_discrete a b) (λ s. s) (λ f. absurd (false≢true (sym (ne_eqb a b f) ∙ e)))

-- an owner of a number owns some number
pub some_owned : (owned n : ℕ) → Owns owned n → 0 < owned
some_owned owned n own = dite (ℕ_discrete owned 0) (λ e. absurd (owns-none n (subst (λ x. Owns x n) e own))) (λ f. omega arith)

-- the least number is owned, and is below 64
pub least-owned : (owned : ℕ) → 0 < owned → owned < 2 ^ 64 → (least owned < 64) × Owns owned (least owned)
least-owned owned some_number small = let t = bit_at-trailing_zeros w64 owned some_number small in (t.0, t.1)

pub below-least : (owned : ℕ) → 0 < owned → owned < 2 ^ 64 → (n : ℕ) → n < least owned → bit_at owned n ≡ 0
below-least owned some_number small = (bit_at-trailing_zeros w64 owned some_number small).2

pub least-most : (owned : ℕ) → 0 < owned → owned < 2 ^ 64 → (n : ℕ) → Owns owned n → least owned ≤ n
least-most owned some_number small n own = dite (dec_lt n (least owned))
    (λ l. let none = below-least owned some_number small n l in absurd (omega (arith, own, none)))
    (λ f. omega (arith, f))

-- a number that is owned, with none below it, is the least
pub least-is : (owned n : ℕ) → owned < 2 ^ 64 → Owns owned n → ((k : ℕ) → k < n → bit_at owned k ≡ 0) → least owned ≡ n
least-is owned n small own below =
    let some_number = some_owned owned n own in
    let low = least-owned owned some_number small in
    dite (dec_lt (least owned) n)
    (λ l. let none = below (least owned) l in let lowest = low.1 in absurd (omega (arith, lowest, none)))
    (λ f. dite (dec_lt n (least owned))
    (λ l. let none = below-least owned some_number small n l in absurd (omega (arith, own, none)))
    (λ h. omega arith))

module _ (owned : ℕ) (some_number : 0 < owned) (small : owned < 2 ^ 64) where
  is_top : IsTop owned
  is_top = top owned some_number small

  -- the number that is given away is the name of its owner
  pub least-of_greatest : least (2 ^ greatest owned) ≡ greatest owned
  least-of_greatest = let l = is_top.low in
      least-is (2 ^ greatest owned) (greatest owned) (omega (arith, l, small)) (owns_itself owned is_top)
      (λ k below. bit_at-pow_other (greatest owned) k (λ e. omega (arith, e, below)))

  -- the old scout keeps its name
  pub least-of_rest : least owned ≢ greatest owned → least (owned - 2 ^ greatest owned) ≡ least owned
  least-of_rest two =
      let low = least-owned owned some_number small in
      least-is (owned - 2 ^ greatest owned) (least owned) (omega (arith, small)) (left-owns owned is_top (least owned) low.1 two)
      (λ k below. let one = bit_at-lt (owned - 2 ^ greatest owned) k in
      dite (ℕ_discrete (bit_at (owned - 2 ^ greatest owned) k) 1)
      (λ own. let is_owned = left-owned owned is_top k own in let none = below-least owned some_number small k below in absurd (omega (arith, is_owned, none)))
      (λ f. omega arith))

  -- and still owns a number
  pub some_rest : least owned ≢ greatest owned → 0 < owned - 2 ^ greatest owned
  some_rest two = some_owned (owned - 2 ^ greatest owned) (least owned) (left-owns owned is_top (least owned) (least-owned owned some_number small).1 two)

-- the name of a joined scout
pub least-of_both : (a b : ℕ) → 0 < a → a < 2 ^ 64 → 0 < b → b < 2 ^ 64 → bit_or a b < 2 ^ 64 → least (bit_or a b) ≡ min (least a) (least b)
least-of_both a b some_a small_a some_b small_b small =
    dite (dec_lt (least a) (least b))
    (λ l. least-is (bit_or a b) (least a) small (either-owns a b (least a) (inl (least-owned a some_a small_a).1))
    (λ k below. neither-owns a b k (below-least a some_a small_a k below) (below-least b some_b small_b k (omega (arith, l, below))))
    ∙ omega (arith, l))
    (λ f. least-is (bit_or a b) (least b) small (either-owns a b (least b) (inr (least-owned b some_b small_b).1))
    (λ k below. neither-owns a b k (below-least a some_a small_a k (omega (arith, f, below))) (below-least b some_b small_b k below))
    ∙ omega (arith, f))

-- who owns two numbers owns two or more
pub two-numbers : (owned a b : ℕ) → 0 < owned → owned < 2 ^ 64 → a ≢ b → Owns owned a → Owns owned b → least owned ≢ greatest owned
two-numbers owned a b some_number small differ own_a own_b same =
    let low_a = least-most owned some_number small a own_a in
    let low_b = least-most owned some_number small b own_b in
    let high_a = most owned (top owned some_number small) a own_a in
    let high_b = most owned (top owned some_number small) b own_b in
    differ (omega (arith, low_a, low_b, high_a, high_b, same))

-- as the owner of all does
pub two-all : least (2 ^ 64 - 1) ≢ greatest (2 ^ 64 - 1)
two-all = two-numbers (2 ^ 64 - 1) 0 1 (lit≤ tt) (lit≤ tt) (λ e. omega (arith, e)) (bit_at_ones 64 0 (omega arith)) (bit_at_ones 64 1 (omega arith))
