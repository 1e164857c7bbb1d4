-- Sets of sides by their numbers.
use Rattle.std.proofs.Common.{◌≡◌, ◌<◌, ◌/◌, ◌%◌, ◌==◌, ℕ, Bool, true, false, not, ◌&&◌, ◌||◌, min, refl, sym, ◌∙◌, ap, inl, inr, bit_and, arith}
use Rattle.std.proofs.lemmas.Bool.{cases_eq}
use Rattle.std.proofs.lemmas.Bool.Decides.{nat_tests}
use Rattle.std.proofs.lemmas.Nat.{and_le_l}
use Rattle.std.proofs.lemmas.Nat.Bits.{bit_at_and, bit_at_lowest}
use Rattle.atam.specs.declared.site.Side.TheVariants.{North, East, South, West}
use Rattle.type_cache.specs.SideSets.{is_within}
use Rattle.type_cache.specs.SideBits.{set_of}
use Rattle.type_cache.proofs.Settling.{within_sides}

-- a bit that both have, and one that both are to have
test_less : (x y z : ℕ) → x < 2 → y < 2 → z ≡ min x y → z ≡ x → not (x == 1) || (y == 1) ≡ true
test_less x y z x_small y_small both is = grind (arith, nat_tests)

least_tests : (x y z : ℕ) → x < 2 → y < 2 → z ≡ min x y → ((x == 1) ≡ true → (y == 1) ≡ true) → z ≡ x
least_tests x y z x_small y_small both follows = elim (cases_eq x 1) [
  | inl one ↦ let test : (x == 1) ≡ true = grind (arith, nat_tests) in let also = follows test in let same : y ≡ 1 = grind (arith, nat_tests) in omega (arith, both, one, same)
  | inr other ↦ let zero : x ≡ 0 = omega arith in omega (arith, both, zero)
]

all_true : (p q r s : Bool) → p ≡ true → q ≡ true → r ≡ true → s ≡ true → p && q && r && s ≡ true
all_true p q r s a b c d = rw (a, b, c, d) refl

same_tests : (p q : Bool) → (p ≡ true → q ≡ true) → (q ≡ true → p ≡ true) → p ≡ q
same_tests true true to from = refl
same_tests true false to from = sym (to refl)
same_tests false true to from = from refl
same_tests false false to from = refl

module _ (a b : ℕ) where
  abbrev both : ℕ
  both = bit_and a b

  first : both % 2 ≡ min (a % 2) (b % 2)
  first = sym (bit_at_lowest both) ∙ bit_at_and a b 0 ∙ (λ k. min (bit_at_lowest a k) (bit_at_lowest b k))

  second : both / 2 % 2 ≡ min (a / 2 % 2) (b / 2 % 2)
  second = bit_at_and a b 1

  third : both / 4 % 2 ≡ min (a / 4 % 2) (b / 4 % 2)
  third = bit_at_and a b 2

  fourth : both / 8 % 2 ≡ min (a / 8 % 2) (b / 8 % 2)
  fourth = bit_at_and a b 3

  to_within : both ≡ a → is_within (set_of a) (set_of b) ≡ true
  to_within same =
      all_true _ _ _ _
      (test_less (a % 2) (b % 2) (both % 2) (omega arith) (omega arith) first (ap (λ k. k % 2) same))
      (test_less (a / 2 % 2) (b / 2 % 2) (both / 2 % 2) (omega arith) (omega arith) second (ap (λ k. k / 2 % 2) same))
      (test_less (a / 4 % 2) (b / 4 % 2) (both / 4 % 2) (omega arith) (omega arith) third (ap (λ k. k / 4 % 2) same))
      (test_less (a / 8 % 2) (b / 8 % 2) (both / 8 % 2) (omega arith) (omega arith) fourth (ap (λ k. k / 8 % 2) same))

  from_within : a < 16 → is_within (set_of a) (set_of b) ≡ true → both ≡ a
  from_within small within =
      let sides = within_sides (set_of a) (set_of b) within in
      let n = least_tests (a % 2) (b % 2) (both % 2) (omega arith) (omega arith) first (sides North) in
      let e = least_tests (a / 2 % 2) (b / 2 % 2) (both / 2 % 2) (omega arith) (omega arith) second (sides East) in
      let s = least_tests (a / 4 % 2) (b / 4 % 2) (both / 4 % 2) (omega arith) (omega arith) third (sides South) in
      let w = least_tests (a / 8 % 2) (b / 8 % 2) (both / 8 % 2) (omega arith) (omega arith) fourth (sides West) in
      let below = and_le_l a b in
      omega (arith, small, below, n, e, s, w)

  pub within_by_number : a < 16 → (bit_and a b == a) ≡ is_within (set_of a) (set_of b)
  within_by_number small =
      same_tests (bit_and a b == a) (is_within (set_of a) (set_of b))
      (λ test. to_within (let same : both ≡ a = grind (arith, nat_tests) in same))
      (λ within. let same = from_within small within in grind (arith, nat_tests))
