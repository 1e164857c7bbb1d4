-- What is found in a list, and in an option.
use Rattle.std.proofs.Common.{◌≡◌, true≢false, ◌<◌, ◌+◌, ◌⊎◌, ℕ, zero, suc, Bool, true, false, cond, List, [], ◌∷◌, length, get_or, slice_get, Option, Some, None, All, refl, sym, ◌∙◌, ap, subst, inl, inr, arith}
use Rattle.std.specs.Prelude.{is_some, find, position, ◌||◌}
use Rattle.std.specs.List.{list_any, position_from}
use Rattle.std.proofs.lemmas.Option.{none-some, same_Some}
use Rattle.std.proofs.lemmas.Iterator.Adapters.{position_from-zero}

-- an option that is there has a value
pub some_is : {X : Type 0} (o : Option X) → is_some o ≡ true → (x : X) × (o ≡ Some x)
some_is None h = absurd (true≢false (sym h))
some_is (Some x) h = (x, refl)

module _ {X : Type 0} (test : X → Bool) where
  -- none of the first n elements passes
  abbrev pub NoneBefore : List X → ℕ → Type 0
  NoneBefore xs n = (k : ℕ) (x : X) → k < n → slice_get xs k ≡ Some x → test x ≡ false

  first_from : (j : ℕ) (xs : List X) (i : ℕ) (x : X) → slice_get xs i ≡ Some x → test x ≡ true → NoneBefore xs i → position_from test j xs ≡ Some (j + i)
  first_from j [] i x at passes none = absurd (none-some x at)
  first_from j (y ∷ ys) zero x at passes none =
      let here : test y ≡ true = ap test (same_Some y x at) ∙ passes in
      let place : j ≡ j + 0 = omega arith in
      rw here (ap (λ n. Some n) place)
  first_from j (y ∷ ys) (suc i) x at passes none =
      let fails : test y ≡ false = none 0 y (omega arith) refl in
      let rest = first_from (j + 1) ys i x at passes (λ k z less there. none (suc k) z (omega (arith, less)) there) in
      let place : j + 1 + i ≡ j + suc i = omega arith in
      rw fails (rest ∙ ap (λ n. Some n) place)

  pub position_first : (xs : List X) (i : ℕ) (x : X) → slice_get xs i ≡ Some x → test x ≡ true → NoneBefore xs i → position test xs ≡ Some i
  position_first xs i x at passes none =
      let place : 0 + i ≡ i = omega arith in
      position_from-zero test xs ∙ first_from 0 xs i x at passes none ∙ ap (λ n. Some n) place

  none_from : (j : ℕ) (xs : List X) → NoneBefore xs (length xs) → position_from test j xs ≡ None
  none_from j [] none = refl
  none_from j (y ∷ ys) none =
      let fails : test y ≡ false = none 0 y (omega arith) refl in
      rw fails (none_from (j + 1) ys (λ k z less there. none (suc k) z (omega (arith, less)) there))

  pub position_none : (xs : List X) → NoneBefore xs (length xs) → position test xs ≡ None
  position_none xs none = position_from-zero test xs ∙ none_from 0 xs none

  either_fails : (a b : Bool) → (a || b) ≡ false → (a ≡ false) × (b ≡ false)
  either_fails true b is = absurd (cc is)
  either_fails false b is = (refl, is)

  -- where none passes, each fails
  pub each_fails : (xs : List X) → list_any test xs ≡ false → (k : ℕ) (d : X) → k < length xs → test (get_or xs k d) ≡ false
  each_fails [] none k d within = let never : ⊥ = omega (arith, within) in absurd never
  each_fails (x ∷ xs) none zero d within = (either_fails (test x) (list_any test xs) none).0
  each_fails (x ∷ xs) none (suc k) d within = each_fails xs (either_fails (test x) (list_any test xs) none).1 k d (omega (arith, within))

  picked : (b : Bool) (y x : X) (rest : Option X) → cond b (Some y) rest ≡ Some x → ((b ≡ true) × (y ≡ x)) ⊎ (rest ≡ Some x)
  picked true y x rest is = inl (refl, same_Some y x is)
  picked false y x rest is = inr is

  -- what is found passes, and has what all elements have
  pub find_passes : (xs : List X) (x : X) → find test xs ≡ Some x → test x ≡ true
  find_passes [] x is = absurd (none-some x is)
  find_passes (y ∷ ys) x is = elim (picked (test y) y x (find test ys) is) [
    | inl here ↦ sym (ap test here.1) ∙ here.0
    | inr there ↦ find_passes ys x there
  ]

  pub find_has : (P : X → Type 0) (xs : List X) (x : X) → All P xs → find test xs ≡ Some x → P x
  find_has P [] x all is = absurd (none-some x is)
  find_has P (y ∷ ys) x all is = elim (picked (test y) y x (find test ys) is) [
    | inl here ↦ subst P here.1 (all 0 y (omega arith))
    | inr there ↦ find_has P ys x (λ k d within. all (suc k) d (omega (arith, within))) there
  ]

  missed : (b : Bool) (y : X) (rest : Option X) → cond b (Some y) rest ≡ None → (b ≡ false) × (rest ≡ None)
  missed true y rest is = absurd (none-some y (sym is))
  missed false y rest is = (refl, is)

  -- where nothing is found, each element fails
  pub none_found : (xs : List X) → find test xs ≡ None → (k : ℕ) (d : X) → k < length xs → test (get_or xs k d) ≡ false
  none_found [] none k d within = let never : ⊥ = omega (arith, within) in absurd never
  none_found (x ∷ xs) none zero d within = (missed (test x) x (find test xs) none).0
  none_found (x ∷ xs) none (suc k) d within = none_found xs (missed (test x) x (find test xs) none).1 k d (omega (arith, within))
