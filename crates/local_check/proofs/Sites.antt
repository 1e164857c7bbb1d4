-- What stands at each site of assemblies with the same places.
use Rattle.std.proofs.Common.{◌≡◌, ◌≢◌, ◌<◌, ℕ, zero, suc, length, List, [], ◌∷◌, take, get_or, get_or-set_same, get_or-set_other, set, Some, slice_get, refl, sym, ◌∙◌, ap, arith}
use Rattle.std.proofs.lemmas.List.{length-take, length-set, get_or-take}
use Rattle.std.proofs.lemmas.Option.{slice_get-get_or, get_or_from_slice_get, slice_get_within}
use Rattle.std.proofs.Math.Nat.{min-le_left, min-le_right}
use Rattle.atam.specs.declared.place.Place.{Place}
use Rattle.atam.specs.Placements.{HasDistinctSites}

-- a part of a list with distinct sites has distinct sites
pub distinct-take : (s : List Place) (n : ℕ) → HasDistinctSites s → HasDistinctSites (take n s)
distinct-take s n distinct i j d below within same =
    let within_n : j < n = omega (arith, within, length-take n s, min-le_left n (length s)) in
    let within_s : j < length s = omega (arith, within, length-take n s, min-le_right n (length s)) in
    let site : (k : ℕ) → k < n → (get_or s k d).site ≡ (get_or (take n s) k d).site = λ k in_n. sym (ap (λ p. p.site) (get_or-take n s k d in_n)) in
    distinct i j d below within_s (site i (omega (arith, below, within_n)) ∙ same ∙ sym (site j within_n))

-- an element within a list
pub slice_get-some : {A : Type 0} (xs : List A) (i : ℕ) → i < length xs → (x : A) × (slice_get xs i ≡ Some x)
slice_get-some [] i within = let never : ⊥ = omega (arith, within) in absurd never
slice_get-some (x ∷ xs) zero within = (x, refl)
slice_get-some (x ∷ xs) (suc i) within = slice_get-some xs i (omega (arith, within))

-- the elements of a list in which one is set
pub slice_get-set : {A : Type 0} (xs : List A) (i : ℕ) (x : A) → i < length xs → slice_get (set xs i x) i ≡ Some x
slice_get-set xs i x within = slice_get-get_or (set xs i x) i x (omega (arith, within, length-set xs i x)) ∙ ap (λ y. Some y) (get_or-set_same xs i x x within)

pub slice_get-apart : {A : Type 0} (xs : List A) (i k : ℕ) (x y : A) → k ≢ i → slice_get (set xs i x) k ≡ Some y → slice_get xs k ≡ Some y
slice_get-apart xs i k x y other at =
    let within = slice_get_within (set xs i x) k y at in
    let same : get_or xs k y ≡ y = sym (get_or-set_other xs i k x y other) ∙ get_or_from_slice_get (set xs i x) k y y at in
    slice_get-get_or xs k y (omega (arith, within, length-set xs i x)) ∙ ap (λ z. Some z) same
