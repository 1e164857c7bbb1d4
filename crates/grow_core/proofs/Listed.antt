-- Scouts that are listed in the order in which they came to be, and a scout alone.
use Rattle.std.proofs.Common.{◌≡◌, ◌≢◌, ◌⊎◌, ◌<◌, ◌-◌, ◌^◌, ℕ, zero, suc, List, [], ◌∷◌, ◌++◌, set, length, Option, Some, None, Contains, refl, sym, ◌∙◌, ap, subst, inl, inr, arith}
use Rattle.std.proofs.lemmas.Option.{none-some, same_Some}
use Rattle.std.proofs.lemmas.List.{set-set, set_comm}
use Rattle.std.proofs.lemmas.List.Elements.{All-contains, Contains-append_cases, Contains-append_left, Contains-push_cases, Contains-append_right}
use Rattle.std.proofs.lemmas.Nat.Bits.{bit_at_ones, bit_at_above}
use mathlib.Core.Logic.{dite}
use native.Mathlib.Decide.{ℕ_discrete, dec_lt}
use Rattle.atam.specs.declared.place.Place.{Place}
use Rattle.atam.proofs.Placements.{at_site}
use Rattle.atam.specs.TileSystem.{TileSystem}
use Rattle.grow_core.specs.declared.placed_tile.PlacedTile.{PlacedTile}
use Rattle.grow_core.specs.Core.{ScoutState, scout_at, Owns, OwnsTwoOrMore, places, IsNumbered, IsHistory, ScoutInvariant, GrowthInvariant}
use Rattle.grow_core.specs.Steps.{IsKeptPart, IsGivenPart, IsUnion}
use Rattle.grow_core.proofs.Lists.{Contains-nil, Contains-map}
use Rattle.grow_core.proofs.Own.{own_tile}
use Rattle.grow_core.proofs.Parted.{divided-invariant, joined-invariant}
use Rattle.atam.proofs.Lists.{Contains-here, Contains-there}

-- scouts of a list are consistent by themselves
pub fewer : (sys : TileSystem) (log : List PlacedTile) (l m : List (Option ScoutState)) → ((b : ℕ) (u : ScoutState) → scout_at m b ≡ Some u → scout_at l b ≡ Some u) →
    GrowthInvariant sys log l → GrowthInvariant sys log m
fewer sys log l m part holds = record {
  history = holds.history;
  each = λ b u e. holds.each b u (part b u e);
  apart = λ b c u x e f. holds.apart b c u x (part b u e) (part c x f);
}

-- none at the end
last_none : (l : List (Option ScoutState)) (b : ℕ) (u : ScoutState) → scout_at (l ++ None ∷ []) b ≡ Some u → scout_at l b ≡ Some u
last_none [] zero u e = absurd (none-some u e)
last_none [] (suc b) u e = absurd (none-some u e)
last_none (x ∷ l) zero u e = e
last_none (x ∷ l) (suc b) u e = last_none l b u e

pub longer : (l m : List (Option ScoutState)) (b : ℕ) (u : ScoutState) → scout_at l b ≡ Some u → scout_at (l ++ m) b ≡ Some u
longer [] m b u e = absurd (none-some u e)
longer (x ∷ l) m zero u e = e
longer (x ∷ l) m (suc b) u e = longer l m b u e

pub scout_within : (l : List (Option ScoutState)) (b : ℕ) (u : ScoutState) → scout_at l b ≡ Some u → b < length l
scout_within [] b u e = absurd (none-some u e)
scout_within (x ∷ l) zero u e = omega arith
scout_within (x ∷ l) (suc b) u e = let w = scout_within l b u e in omega (arith, w)

set_last : (l : List (Option ScoutState)) (o : Option ScoutState) → set (l ++ None ∷ []) (length l) o ≡ l ++ o ∷ []
set_last [] o = refl
set_last (x ∷ l) o = ap (λ r. x ∷ r) (set_last l o)

set_then_last : (l : List (Option ScoutState)) (a : ℕ) (p o : Option ScoutState) → a < length l → set (set (l ++ None ∷ []) a p) (length l) o ≡ set l a p ++ o ∷ []
set_then_last [] a p o within = let never : ⊥ = omega (arith, within) in absurd never
set_then_last (x ∷ l) zero p o within = ap (λ r. p ∷ r) (set_last l o)
set_then_last (x ∷ l) (suc a) p o within = ap (λ r. x ∷ r) (set_then_last l a p o (omega (arith, within)))

-- the new scout of a split comes last
pub divided-last : (sys : TileSystem) (log : List PlacedTile) (scouts : List (Option ScoutState)) (a : ℕ) (v w x : ScoutState) → GrowthInvariant sys log scouts → scout_at scouts a ≡ Some v →
    OwnsTwoOrMore v.owned → IsKeptPart v w → IsGivenPart v x →
    GrowthInvariant sys log (set scouts a (Some w) ++ Some x ∷ [])
divided-last sys log scouts a v w x holds here two rest new =
    subst (GrowthInvariant sys log) (set_then_last scouts a (Some w) (Some x) (scout_within scouts a v here))
    (divided-invariant sys log (scouts ++ None ∷ []) a v w x (fewer sys log scouts (scouts ++ None ∷ []) (last_none scouts) holds) (longer scouts (None ∷ []) a v here) two (length scouts) rest new)

-- of two that are joined, the one takes the place of the first
pub joined-first : (sys : TileSystem) (log : List PlacedTile) (scouts : List (Option ScoutState)) (a b : ℕ) (v w x : ScoutState) → GrowthInvariant sys log scouts → scout_at scouts a ≡ Some v →
    scout_at scouts b ≡ Some w → a ≢ b → IsUnion v w x →
    GrowthInvariant sys log (set (set scouts a (Some x)) b None)
joined-first sys log scouts a b v w x holds at_a at_b differ is =
    subst (GrowthInvariant sys log)
    (set_comm (set scouts a None) b a None (Some x) (λ e. differ (sym e)) ∙ ap (λ l. set l b None) (set-set scouts a None (Some x)))
    (joined-invariant sys log scouts a b v w x holds at_a at_b differ a is)

is_first : (v : ScoutState) (b : ℕ) (u : ScoutState) → scout_at (Some v ∷ []) b ≡ Some u → (b ≡ 0) × (v ≡ u)
is_first v zero u e = (refl, same_Some v u e)
is_first v (suc b) u e = absurd (none-some u e)

-- one scout by itself
pub one_scout : (sys : TileSystem) (log : List PlacedTile) (v : ScoutState) → IsHistory sys log → ScoutInvariant sys log v → GrowthInvariant sys log (Some v ∷ [])
one_scout sys log v history knows =
    record {
      history = history;
      each = λ b u e. subst (ScoutInvariant sys log) (is_first v b u e).1 knows;
      apart = λ b c u x e f differ n _ _. differ ((is_first v b u e).0 ∙ sym (is_first v c x f).0);
    }

-- who owns all numbers has won all tiles but the seeds
pub whole_mine : (sys : TileSystem) (log : List PlacedTile) (v : ScoutState) → IsHistory sys log → ScoutInvariant sys log v → v.owned ≡ 2 ^ 64 - 1 → (t : PlacedTile) → Contains log t →
    ¬ Contains sys.seeds t.place → Contains v.mine t
whole_mine sys log v history knows all t c other =
    let below = (All-contains (IsNumbered sys) log t history.numbered c).other other in
    own_tile sys log v knows t c (subst (λ n. Owns n t.placer) (sym all) (bit_at_ones 64 t.placer below))

-- the tile of a place
pub unplaced : (log : List PlacedTile) (p : Place) → Contains (places log) p → (t : PlacedTile) × Contains log t × (t.place ≡ p)
unplaced [] p c = absurd (Contains-nil p c)
unplaced (x ∷ log) p c = elim (Contains-append_cases (x.place ∷ []) (places log) p c) [
  | inl head ↦ elim (Contains-push_cases [] x.place p head) [ inl never ↦ absurd (Contains-nil p never) | inr same ↦ (x, Contains-here x log, same) ]
  | inr later ↦ let t = unplaced log p later in (t.0, Contains-there x t.0 log t.1, t.2)
]

-- a list has a place, or it doesn't
same_place_cases : (p q : Place) → (p ≡ q) ⊎ (p ≢ q)
same_place_cases p q = elim (at_site p q.site) [
  | inl site ↦ dite (ℕ_discrete p.tile.0 q.tile.0)
      (λ tile. inl (λ i. record { site = site i; tile = record { 0 = tile i } }))
      (λ other. inr (λ e. other (ap (λ (r : Place). r.tile.0) e)))
  | inr other ↦ inr (λ e. other (ap (λ (r : Place). r.site) e))
]

has_place : (s : List Place) (p : Place) → Contains s p ⊎ ¬ Contains s p
has_place [] p = inr (λ c. Contains-nil p c)
has_place (q ∷ s) p = elim (same_place_cases q p) [
  | inl same ↦ inl (subst (Contains (q ∷ s)) same (Contains-here q s))
  | inr differ ↦ elim (has_place s p) [
    | inl c ↦ inl (Contains-there q p s c)
    | inr none ↦ inr (λ c. elim (Contains-append_cases (q ∷ []) s p c) [
      | inl head ↦ elim (Contains-push_cases [] q p head) [ inl never ↦ Contains-nil p never | inr same ↦ differ same ]
      | inr later ↦ none later
    ])
  ]
]

-- so each place is a seed's or one of its own
pub whole_place : (sys : TileSystem) (log : List PlacedTile) (v : ScoutState) → IsHistory sys log → ScoutInvariant sys log v → v.owned ≡ 2 ^ 64 - 1 → (p : Place) → Contains (places log) p →
    Contains (sys.seeds ++ places v.mine) p
whole_place sys log v history knows all p c =
    let t = unplaced log p c in
    elim (has_place sys.seeds p) [
      | inl seed ↦ Contains-append_left sys.seeds (places v.mine) p seed
      | inr other ↦ Contains-append_right sys.seeds (places v.mine) p
          (subst (Contains (places v.mine)) t.2 (Contains-map (λ (u : PlacedTile). u.place) v.mine t.0 (whole_mine sys log v history knows all t.0 t.1 (λ seed. other (subst (Contains sys.seeds) t.2 seed)))))
    ]

-- a scout's number is below 64
pub owned-below : (owned n : ℕ) → owned < 2 ^ 64 → Owns owned n → n < 64
owned-below owned n small own = dite (dec_lt n 64) (λ l. l) (λ f. let none = bit_at_above owned 64 n small (omega (arith, f)) in absurd (omega (arith, own, none)))
