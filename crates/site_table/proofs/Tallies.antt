-- Counts of numbers, and the run of the last one.
use Rattle.std.proofs.Common.{◌≡◌, ◌<◌, ◌+◌, ◌==◌, ℕ, Bool, true, false, cond, refl, subst, slice_index, get_or, replicate, inl, inr, arith}
use Rattle.std.proofs.lemmas.Bool.{eq-eqb, cases_lt}
use Rattle.std.proofs.lemmas.List.{get_or-replicate, get_or_past, length-replicate}
use Rattle.site_table.specs.Inner.Tallies.{TallyValue, tallied}

-- of so many zeros each is zero
pub zeros : (count n : ℕ) → ◌≡◌ {A = ℕ} (get_or (replicate count 0) n 0) 0
zeros count n = elim (cases_lt n count) [
  | inl within ↦ get_or-replicate count n 0 0 within
  | inr past ↦ get_or_past (replicate count 0) n 0 (omega (arith, past, length-replicate {A = ℕ} count 0))
]

no_run : (b : Bool) → ◌≡◌ {A = ℕ} (cond b 0 0) 0
no_run true = refl
no_run false = refl

-- at the beginning no number has come
pub none_tallied : (n : ℕ) → tallied (record { counts = replicate 64 0; last = 0; run = 0 }) n ≡ 0
none_tallied n = let zero = zeros 64 n in let none = no_run (0 == n) in omega (arith, zero, none)

-- a run is no longer than all that the counts tell
pub run_few : (t : TallyValue) (most : ℕ) → ((n : ℕ) → tallied t n < most) → t.run < most
run_few t most few =
    let same : (t.last == t.last) ≡ true = eq-eqb t.last t.last refl in
    let sum : slice_index t.counts t.last + t.run < most = subst (λ (b : Bool). slice_index t.counts t.last + cond b t.run 0 < most) same (few t.last) in
    omega (arith, sum)
