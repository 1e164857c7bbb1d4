-- What lists of any kind contain.
use Rattle.std.proofs.Common.{◌≡◌, suc, Bool, true, false, cond, List, [], ◌∷◌, ◌++◌, filter, map, get_or, Contains, AllPairs, ◌∙◌, ap, subst, inl, inr, arith}
use Rattle.std.proofs.lemmas.List.Elements.{All-filter, All-contains, All-contains_itself, All-append, Contains-get_or, filter_passes, Contains-append_cases, Contains-push_cases}
use Rattle.std.proofs.lemmas.List.Kept.{AllPairs-cons}
use Rattle.atam.proofs.Lists.{Contains-here, Contains-there}

pub Contains-nil : {X : Type 0} (y : X) → Contains [] y → ⊥
Contains-nil y c = let l = c.1 in omega arith

kept-cons : {X : Type 0} (b : Bool) (y x : X) (xs : List X) → Contains xs x → Contains (cond b (y ∷ xs) xs) x
kept-cons true y x xs c = Contains-there y x xs c
kept-cons false y x xs c = c

-- what a filter keeps
pub filter-from : {X : Type 0} (p : X → Bool) (xs : List X) (x : X) → Contains (filter p xs) x → Contains xs x
filter-from p xs x c = All-contains (Contains xs) (filter p xs) x (All-filter p (Contains xs) xs (All-contains_itself xs)) c

pub filter-passed : {X : Type 0} (p : X → Bool) (xs : List X) (x : X) → Contains (filter p xs) x → p x ≡ true
filter-passed p xs x c = All-contains (λ y. p y ≡ true) (filter p xs) x (filter_passes p xs) c

pub filter-has : {X : Type 0} (p : X → Bool) (xs : List X) (x : X) → Contains xs x → p x ≡ true → Contains (filter p xs) x
filter-has p [] x c e = absurd (Contains-nil x c)
filter-has p (y ∷ xs) x c e = elim (Contains-append_cases (y ∷ []) xs x c) [
  | inl head ↦ elim (Contains-push_cases [] y x head) [
    | inl never ↦ absurd (Contains-nil x never)
    | inr same ↦ let passes : p y ≡ true = ap p same ∙ e in rw passes (subst (λ z. Contains (y ∷ filter p xs) z) same (Contains-here y (filter p xs)))
  ]
  | inr later ↦ kept-cons (p y) y x (filter p xs) (filter-has p xs x later e)
]

-- two lists, each of whose pairs are related, and each element of the one to each of the other
pub all_pairs_append : {X : Type 0} (R : X → X → Type 0) (xs ys : List X) → AllPairs R xs → AllPairs R ys → ((x y : X) → Contains xs x → Contains ys y → R x y) → AllPairs R (xs ++ ys)
all_pairs_append R [] ys one other cross = other
all_pairs_append R (x ∷ xs) ys one other cross =
    AllPairs-cons R x (xs ++ ys)
    (All-append (R x) xs ys (λ k d within. one 0 (suc k) d (omega arith) (omega (arith, within)))
    (λ k d within. cross x (get_or ys k d) (Contains-here x xs) (Contains-get_or ys k d within)))
    (all_pairs_append R xs ys (λ i j d before within. one (suc i) (suc j) d (omega (arith, before)) (omega (arith, within))) other
    (λ y z c e. cross y z (Contains-there x y xs c) e))

-- the image of what a list contains
pub Contains-map : {X Y : Type 0} (f : X → Y) (xs : List X) (x : X) → Contains xs x → Contains (map f xs) (f x)
Contains-map f [] x c = absurd (Contains-nil x c)
Contains-map f (y ∷ xs) x c = elim (Contains-append_cases (y ∷ []) xs x c) [
  | inl head ↦ elim (Contains-push_cases [] y x head) [
    | inl never ↦ absurd (Contains-nil x never)
    | inr same ↦ subst (λ z. Contains (f y ∷ map f xs) (f z)) same (Contains-here (f y) (map f xs))
  ]
  | inr later ↦ Contains-there (f y) (f x) (map f xs) (Contains-map f xs x later)
]

-- what a part has the whole has, also after a map
pub map-part : {X Y : Type 0} (f : X → Y) (xs ys : List X) → ((x : X) → Contains xs x → Contains ys x) → (y : Y) → Contains (map f xs) y → Contains (map f ys) y
map-part f [] ys part y c = absurd (Contains-nil y c)
map-part f (x ∷ xs) ys part y c = elim (Contains-append_cases (f x ∷ []) (map f xs) y c) [
  | inl head ↦ elim (Contains-push_cases [] (f x) y head) [
    | inl never ↦ absurd (Contains-nil y never)
    | inr same ↦ subst (λ z. Contains (map f ys) z) same (Contains-map f ys x (part x (Contains-here x xs)))
  ]
  | inr later ↦ map-part f xs ys (λ z d. part z (Contains-there x z xs d)) y later
]
