-- Bits and carries of a number and the next one.
use Rattle.std.proofs.Common.{◌≡◌, ◌⊎◌, ◌<◌, ◌≤◌, nat_lt, ◌*◌, ◌/◌, ◌%◌, ◌^◌, ◌==◌, ℕ, zero, suc, Bool, true, false, not, ◌&&◌, refl, sym, ◌∙◌, ap, inl, inr, arith}
use Rattle.std.proofs.lemmas.Bool.Decides.{eqb_tells, nat_tests}
use Rattle.std.proofs.lemmas.Nat.Bits.{bit_at-suc, bit_at_lowest, bit_at_above}
use Rattle.std.proofs.Math.Nat.{pow-succ'}
use mathlib.Core.Bool.{xor, beq}
use Rattle.counter_compile.proofs.Cells.{bit, carry}

bit-zero : (n : ℕ) → bit 0 n ≡ (n % 2 == 1)
bit-zero n = ap (λ m. m == 1) (bit_at_lowest n)

bit-half : (p n : ℕ) → bit (suc p) n ≡ bit p (n / 2)
bit-half p n = ap (λ m. m == 1) (bit_at-suc n p)

-- a number is even or odd, and so is the next one the other way
parity : (n : ℕ) → (((n % 2 == 1) ≡ false) × ((suc n % 2 == 1) ≡ true) × (suc n / 2 ≡ n / 2)) ⊎ (((n % 2 == 1) ≡ true) × ((suc n % 2 == 1) ≡ false) × (suc n / 2 ≡ suc (n / 2)))
parity n = elim (eqb_tells (n % 2) 1) [
  | inl odd ↦ elim (eqb_tells (suc n % 2) 1) [
    | inl again ↦ let o = odd.1 in let a = again.1 in let never : ⊥ = omega (arith, o, a) in absurd never
    | inr even ↦ let o = odd.1 in inr (odd.0, even.0, omega (arith, o))
  ]
  | inr even ↦ elim (eqb_tells (suc n % 2) 1) [
    | inl odd ↦ let o = odd.1 in inl (even.0, odd.0, omega (arith, o))
    | inr again ↦ let e = even.1 in let a = again.1 in let never : ⊥ = omega (arith, e, a) in absurd never
  ]
]

-- as code has it
pub xor_is : (b c : Bool) → not (beq b c) ≡ xor b c
unfolding xor
xor_is b c = refl

xor-false : (b : Bool) → xor b false ≡ b
unfolding xor
xor-false true = refl
xor-false false = refl

halves : (p n : ℕ) → bit p (suc (n / 2)) ≡ xor (bit p (n / 2)) (carry p (n / 2)) → bit p (suc n / 2) ≡ xor (bit p (n / 2)) (n % 2 == 1 && carry p (n / 2))
halves p n next = elim (parity n) [
  | inl even ↦ ap (bit p) even.2 ∙ sym (xor-false (bit p (n / 2))) ∙ ap (λ t. xor (bit p (n / 2)) (t && carry p (n / 2))) (sym even.0)
  | inr odd ↦ ap (bit p) odd.2 ∙ next ∙ ap (λ t. xor (bit p (n / 2)) (t && carry p (n / 2))) (sym odd.0)
]

pub bit-suc : (p n : ℕ) → bit p (suc n) ≡ xor (bit p n) (carry p n)
unfolding xor
bit-suc zero n = bit-zero (suc n) ∙ by ∙ ap (λ b. xor b true) (sym (bit-zero n))
  where
    by : (suc n % 2 == 1) ≡ xor (n % 2 == 1) true
    by = elim (parity n) [
      | inl even ↦ rw (even.0, even.1) refl
      | inr odd ↦ rw (odd.0, odd.1) refl
    ]
bit-suc (suc p) n = bit-half p (suc n) ∙ halves p n (bit-suc p (n / 2)) ∙ ap (λ b. xor b (carry (suc p) n)) (sym (bit-half p n))

and-true : (b : Bool) → (b && true) ≡ b
and-true true = refl
and-true false = refl

and-move : (a b c : Bool) → (a && (b && c)) ≡ (b && (a && c))
and-move true b c = refl
and-move false true c = refl
and-move false false c = refl

-- the carry out of a column
pub carry-suc : (p n : ℕ) → carry (suc p) n ≡ (bit p n && carry p n)
carry-suc zero n = ap (λ b. b && true) (sym (bit-zero n))
carry-suc (suc p) n =
    ap (λ b. (n % 2 == 1) && b) (carry-suc p (n / 2)) ∙ and-move (n % 2 == 1) (bit p (n / 2)) (carry p (n / 2))
    ∙ ap (λ b. b && carry (suc p) n) (sym (bit-half p n))

-- the last carry tells whether the next number has one bit more
pub carry-out : (k n : ℕ) → n < 2 ^ k → ((carry k n ≡ true) × (suc n ≡ 2 ^ k)) ⊎ ((carry k n ≡ false) × (suc n < 2 ^ k))
carry-out zero n below = let one : 2 ^ 0 ≡ 1 = refl in inl (refl, omega (arith, below, one))
carry-out (suc k) n below =
    let twice : 2 ^ suc k ≡ 2 * 2 ^ k = pow-succ' 2 k in
    elim (parity n) [
      | inl even ↦ let e = even.2 in inr (rw even.0 refl, omega (arith, below, twice, e))
      | inr odd ↦ elim (carry-out k (n / 2) (omega (arith, below, twice))) [
        | inl all ↦ let h = all.1 in let o = odd.2 in inl (rw odd.0 all.0, omega (arith, twice, h, o))
        | inr some ↦ let h = some.1 in let o = odd.2 in inr (rw odd.0 some.0, omega (arith, twice, h, o))
      ]
    ]

-- a number of 64 bits has no others
pub bit_past : (n p : ℕ) → n < 2 ^ 64 → 64 ≤ p → nat_lt p 64 ≡ bit p n
bit_past n p small past =
    let gone : nat_lt p 64 ≡ false = grind (arith, nat_tests) in
    gone ∙ sym (ap (λ m. m == 1) (bit_at_above n 64 p small past))
