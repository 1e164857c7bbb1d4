-- Scouts by their names.
use Rattle.std.proofs.Common.{◌≡◌, ◌≢◌, ◌⊎◌, ℕ, zero, suc, List, [], ◌∷◌, set, length, Option, Some, refl, sym, ◌∙◌, ap, inl, inr, arith, None}
use Rattle.std.proofs.lemmas.Option.{none-some, same_Some}
use Rattle.grow_core.specs.Core.{ScoutState, scout_at, least, AreListedByName}

-- who has a name after one entry has changed
pub named_after : (l : List (Option ScoutState)) (a b : ℕ) (o : Option ScoutState) (v : ScoutState) → scout_at (set l a o) b ≡ Some v →
    ((b ≡ a) × (o ≡ Some v)) ⊎ ((b ≢ a) × (scout_at l b ≡ Some v))
named_after [] a b o v e = absurd (none-some v e)
named_after (x ∷ l) zero zero o v e = inl (refl, e)
named_after (x ∷ l) zero (suc b) o v e = inr ((λ h. omega arith), e)
named_after (x ∷ l) (suc a) zero o v e = inr ((λ h. omega arith), e)
named_after (x ∷ l) (suc a) (suc b) o v e = elim (named_after l a b o v e) [
  | inl t ↦ inl (ap suc t.0, t.1)
  | inr t ↦ let n = t.0 in inr ((λ h. n (omega arith)), t.1)
]

pub named_other : (l : List (Option ScoutState)) (a b : ℕ) (o : Option ScoutState) → b ≢ a → scout_at (set l a o) b ≡ scout_at l b
named_other [] a b o differ = refl
named_other (x ∷ l) zero zero o differ = absurd (differ refl)
named_other (x ∷ l) zero (suc b) o differ = refl
named_other (x ∷ l) (suc a) zero o differ = refl
named_other (x ∷ l) (suc a) (suc b) o differ = named_other l a b o (λ e. differ (ap suc e))

pub length_set : (l : List (Option ScoutState)) (a : ℕ) (o : Option ScoutState) → length (set l a o) ≡ length l
length_set [] a o = refl
length_set (x ∷ l) zero o = refl
length_set (x ∷ l) (suc a) o = ap suc (length_set l a o)

-- names are kept where a scout comes to its own name
pub named_set : (scouts : List (Option ScoutState)) (a : ℕ) (w : ScoutState) → AreListedByName scouts → least w.owned ≡ a → AreListedByName (set scouts a (Some w))
named_set scouts a w named name = record {
  names = length_set scouts a (Some w) ∙ named.names;
  own_name = λ b u at_b. elim (named_after scouts a b (Some w) u at_b) [
    | inl t ↦ ap (λ (x : ScoutState). least x.owned) (sym (same_Some w u t.1)) ∙ (name ∙ sym t.0)
    | inr t ↦ named.own_name b u t.1
  ];
}

-- and where one is left out
pub named_unset : (scouts : List (Option ScoutState)) (a : ℕ) → AreListedByName scouts → AreListedByName (set scouts a None)
named_unset scouts a named = record {
  names = length_set scouts a None ∙ named.names;
  own_name = λ b u at_b. elim (named_after scouts a b None u at_b) [ inl t ↦ absurd (none-some u t.1) | inr t ↦ named.own_name b u t.1 ];
}
