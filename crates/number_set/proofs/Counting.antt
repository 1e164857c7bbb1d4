-- How many numbers a set has.
use Rattle.std.proofs.Common.{◌≡◌, ◌≢◌, ◌↔◌, ℕ, zero, suc, ◌+◌, ◌<◌, ◌≤◌, inl, inr, arith}
use Rattle.std.proofs.lemmas.Bool.{cases_eq}
use Rattle.std.proofs.lemmas.Nat.Bits.{bit_at-lt}
use Rattle.number_set.specs.Numbers.{bit_of, count_below, Numbers, IsIn, Adds, Removes}

bit_within : (s : Numbers) (n : ℕ) → bit_of s.words n < 2
bit_within s n = bit_at-lt _ _

-- sets with the same numbers below k
pub count_below-same : (old new : Numbers) (k : ℕ) → ((m : ℕ) → m < k → IsIn new m ↔ IsIn old m) → count_below new k ≡ count_below old k
count_below-same old new zero same = λ _. 0
count_below-same old new (suc k) same =
    let before = count_below-same old new k (λ m l. same m (omega arith)) in
    let here = same k (omega arith) in
    let a = bit_within new k in
    let b = bit_within old k in
    elim (cases_eq (bit_of new.words k) 1) [
      | inl is ↦ let also = here.0 is in omega (arith, before, also, is)
      | inr not ↦ elim (cases_eq (bit_of old.words k) 1) [ inl is ↦ absurd (not (here.1 is)) | inr none ↦ omega (arith, before) ]
    ]

-- one number more
pub count_below-adds : (old new : Numbers) (n k : ℕ) → Adds old new n → count_below new k ≤ count_below old k + 1
count_below-adds old new n zero adds = omega arith
count_below-adds old new n (suc k) adds =
    let a = bit_within new k in
    let b = bit_within old k in
    elim (cases_eq k n) [
      | inl last ↦
          let before = count_below-same old new k (λ m l. (
            λ bit. elim ((adds m).0 bit) [ inl was ↦ was | inr here ↦ absurd (omega arith) ],
            λ bit. (adds m).1 (inl bit),
          )) in
          omega (arith, before)
      | inr other ↦
          let before = count_below-adds old new n k adds in
          let here : bit_of new.words k ≤ bit_of old.words k = elim (cases_eq (bit_of new.words k) 1) [
            | inl is ↦ elim ((adds k).0 is) [ inl was ↦ omega (arith, was, is) | inr same ↦ absurd (other same) ]
            | inr not ↦ omega arith
          ] in
          omega (arith, before, here)
    ]

-- one number less
pub count_below-removes : (old new : Numbers) (n k : ℕ) → Removes old new n → IsIn old n → n < k → count_below new k + 1 ≤ count_below old k
count_below-removes old new n zero removes was within = absurd (omega arith)
count_below-removes old new n (suc k) removes was within =
    let a = bit_within new k in
    let b = bit_within old k in
    elim (cases_eq k n) [
      | inl last ↦
          let before = count_below-same old new k (λ m l. (
            λ bit. ((removes m).0 bit).0,
            λ bit. (removes m).1 (bit, λ same. omega arith),
          )) in
          let gone : bit_of new.words k ≢ 1 = λ bit. ((removes k).0 bit).1 last in
          let here : bit_of old.words k ≡ 1 = rw last was in
          omega (arith, before, gone, here)
      | inr other ↦
          let before = count_below-removes old new n k removes was (omega arith) in
          let here : bit_of new.words k ≤ bit_of old.words k = elim (cases_eq (bit_of new.words k) 1) [
            | inl is ↦ let kept = ((removes k).0 is).0 in omega (arith, kept, is)
            | inr not ↦ omega arith
          ] in
          omega (arith, before, here)
    ]
