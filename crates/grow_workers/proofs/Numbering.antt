-- Workers by their numbers.
use Rattle.std.proofs.Common.{◌≡◌, ◌≢◌, ◌<◌, ◌≤◌, ◌+◌, ◌-◌, ◌^◌, ◌==◌, ℕ, zero, suc, not, Bool, true, List, [], ◌∷◌, filter, get_or, length, AllPairs, eq-eqb, ne_eqb, refl, sym, ◌∙◌, ap, arith}
use Rattle.std.proofs.lemmas.Bool.{false≢true}
use Rattle.std.proofs.lemmas.List.Elements.{All-contains, Contains-get_or}
use Rattle.std.proofs.lemmas.List.Kept.{AllPairs-filter}
use Rattle.std.proofs.lemmas.Nat.Bits.{bit_at_ones}
use mathlib.Core.Logic.{dite}
use native.Mathlib.Decide.{ℕ_discrete}
use Rattle.grow_core.specs.declared.placed_tile.PlacedTile.{PlacedTile}
use Rattle.grow_core.specs.Core.{Owns, least, greatest, OwnsTwoOrMore}
use Rattle.grow_core.proofs.Lists.{filter-from, filter-passed}
use Rattle.grow_core.proofs.Numbers.{top, left-owns, least-of_rest, some_rest, two-numbers}
use Rattle.grow_workers.specs.Inner.Wins.{HasNumbers, Rests, OthersWin}
use Rattle.grow_workers.specs.Workers.{OwnsAtLeast, WinsUnder, WorkersWin, greatest_but, owned_number}

-- what the workers from 1 on have won, each by its number
other_gains : (old new : List PlacedTile) (owned : ℕ) (wins : List ℕ) → OthersWin old new owned wins → (k : ℕ) → k < length wins → WinsUnder old new (greatest_but k owned) (get_or wins k 0)
other_gains old new owned [] others k within = let never : ⊥ = omega (arith, within) in absurd never
other_gains old new owned (x ∷ wins) others zero within = others.1
other_gains old new owned (x ∷ wins) others (suc k) within = other_gains old new (owned - 2 ^ greatest owned) wins others.2 k (omega (arith, within))

-- and no other number
other_rests : (old new : List PlacedTile) (owned : ℕ) (wins : List ℕ) → 0 < owned → owned < 2 ^ 64 → OthersWin old new owned wins → (n : ℕ) → Owns owned n → n ≢ least owned →
    ((k : ℕ) → k < length wins → n ≢ greatest_but k owned) → Rests old new n
other_rests old new owned [] some small others n own not_least not_theirs = others n own not_least
other_rests old new owned (x ∷ wins) some small others n own not_least not_theirs =
    other_rests old new (owned - 2 ^ greatest owned) wins (some_rest owned some small others.0) (omega (arith, small)) others.2 n
    (left-owns owned (top owned some small) n own (not_theirs 0 (omega arith)))
    (λ e. not_least (e ∙ least-of_rest owned some small others.0))
    (λ k within. not_theirs (suc k) (omega (arith, within)))

pub workers_win : (old new : List PlacedTile) (owned first : ℕ) (others : List ℕ) → 0 < owned → owned < 2 ^ 64 → WinsUnder old new (least owned) first → OthersWin old new owned others →
    WorkersWin old new owned (first ∷ others)
workers_win old new owned first others some small first_wins others_win = record {
  each = λ w. elim w as (λ v. v < length (first ∷ others) → WinsUnder old new (owned_number v owned) (get_or (first ∷ others) v 0)) [
    | zero ↦ λ within. first_wins
    | suc k ↦ λ within. other_gains old new owned others others_win k (omega (arith, within))
  ];
  others = λ n own none. other_rests old new owned others some small others_win n own (none 0 (omega arith)) (λ k within. none (suc k) (omega (arith, within)));
}

-- a test that all pass keeps all
filter_all : (p : ℕ → Bool) (xs : List ℕ) → ((k d : ℕ) → k < length xs → p (get_or xs k d) ≡ true) → filter p xs ≡ xs
filter_all p [] all = refl
filter_all p (x ∷ xs) all = rw (all 0 x (omega arith)) (ap (λ l. x ∷ l) (filter_all p xs (λ k d l. all (suc k) d (omega (arith, l)))))

-- one number is listed once
one_less : (g : ℕ) (xs : List ℕ) → AllPairs (λ n k. n ≢ k) xs → length xs ≤ length (filter (λ n. not (n == g)) xs) + 1
one_less g [] distinct = omega arith
one_less g (x ∷ xs) distinct = dite (ℕ_discrete x g)
    (λ e. rw (eq-eqb x g e)
    (let same = filter_all (λ n. not (n == g)) xs (λ k d l. ap not (ne_eqb (get_or xs k d) g (λ f. distinct 0 (suc k) d (omega arith) (omega (arith, l)) (e ∙ sym f)))) in
    let count = ap length same in omega (arith, count)))
    (λ f. rw (ne_eqb x g f) (let rest = one_less g xs (λ i j d before within. distinct (suc i) (suc j) d (omega (arith, before)) (omega (arith, within))) in omega (arith, rest)))

-- who owns so many numbers has one for each of so many workers
pub numbers_suffice : (count owned : ℕ) → 0 < owned → owned < 2 ^ 64 → OwnsAtLeast count owned → HasNumbers count owned
numbers_suffice zero owned some small has = tt
numbers_suffice (suc zero) owned some small has = tt
numbers_suffice (suc (suc k)) owned some small has =
    let g = greatest owned in
    let many = has.many in
    let xs = has.numbers in
    let two : OwnsTwoOrMore owned = two-numbers owned (get_or xs 0 0) (get_or xs 1 0) some small (has.distinct 0 1 0 (omega arith) (omega (arith, many)))
    (has.all_owned 0 0 (omega (arith, many))) (has.all_owned 1 0 (omega (arith, many))) in
    let left : List ℕ = filter (λ n. not (n == g)) xs in
    let fewer = one_less g xs has.distinct in (
      two,
      numbers_suffice (suc k) (owned - 2 ^ g) (some_rest owned some small two) (omega (arith, small)) (record {
        numbers = left;
        many = omega (arith, many, fewer);
        distinct = AllPairs-filter (λ n m. n ≢ m) (λ n. not (n == g)) xs has.distinct;
        all_owned = λ j d l.
            let n = get_or left j d in
            let c = Contains-get_or left j d l in
            left-owns owned (top owned some small) n (All-contains (Owns owned) xs n has.all_owned (filter-from (λ m. not (m == g)) xs n c))
            (λ e. false≢true (sym (ap not (eq-eqb n g e)) ∙ filter-passed (λ m. not (m == g)) xs n c));
      }),
    )

-- the numbers below a number
abbrev below : ℕ → List ℕ
below zero = []
below (suc n) = n ∷ below n

length_below : (n : ℕ) → length (below n) ≡ n
length_below zero = refl
length_below (suc n) = ap suc (length_below n)

is_below : (n k d : ℕ) → k < length (below n) → get_or (below n) k d < n
is_below zero k d within = let never : ⊥ = omega (arith, within) in absurd never
is_below (suc n) zero d within = omega arith
is_below (suc n) (suc k) d within = let l = is_below n k d (omega (arith, within)) in omega (arith, l)

pairs_below : (n i j d : ℕ) → i < j → j < length (below n) → get_or (below n) i d ≢ get_or (below n) j d
pairs_below zero i j d before within = let never : ⊥ = omega (arith, within) in absurd never
pairs_below (suc n) i zero d before within = let never : ⊥ = omega (arith, before) in absurd never
pairs_below (suc n) zero (suc j) d before within = let l = is_below n j d (omega (arith, within)) in λ e. omega (arith, e, l)
pairs_below (suc n) (suc i) (suc j) d before within = pairs_below n i j d (omega (arith, before)) (omega (arith, within))

distinct_below : (n : ℕ) → AllPairs (λ a b. a ≢ b) (below n)
distinct_below n = λ i j d before within. pairs_below n i j d before within

-- who owns the least numbers, so many of them, owns at least so many
pub owns_least : (bits count : ℕ) → count ≤ bits → OwnsAtLeast count (2 ^ bits - 1)
owns_least bits count few = record {
  numbers = below count;
  many = let e = length_below count in omega (arith, e);
  distinct = distinct_below count;
  all_owned = λ k d l. let b = is_below count k d l in bit_at_ones bits (get_or (below count) k d) (omega (arith, b, few));
}

-- and who owns all numbers owns at least 64
pub owns_many : (count : ℕ) → count ≤ 64 → OwnsAtLeast count (2 ^ 64 - 1)
owns_many count few = owns_least 64 count few
