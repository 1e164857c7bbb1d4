-- A list has one first item of which something isn't so, and what is least has one number.
use Rattle.std.proofs.Common.{◌≡◌, ◌<◌, ℕ, List, slice_get, sym, ◌∙◌, ap, inl, inr, arith}
use Rattle.std.proofs.lemmas.Bool.{cases_lt, cases_order}
use Rattle.std.proofs.lemmas.Option.{same_Some}
use Rattle.local_check.specs.Firsts.{IsFirstNot, IsLeast}

-- two numbers of which neither is below the other
neither_below : (i j : ℕ) → ¬ (i < j) → ¬ (j < i) → i ≡ j
neither_below i j not_i not_j = elim (cases_order i j) [
  | inl equal ↦ equal
  | inr rest ↦ elim rest [ inl less ↦ absurd (not_i less) | inr more ↦ absurd (not_j more) ]
]

pub one_first_not : {A : Type 0} (list : List A) (from : ℕ) (P Q R : ℕ → A → Type 0) →
    (f : IsFirstNot list from P Q) → (g : IsFirstNot list from P R) → (f.index ≡ g.index) × (f.item ≡ g.item)
one_first_not list from P Q R f g =
    let index : f.index ≡ g.index = neither_below f.index g.index
    (λ less. f.fails (g.before f.index f.item f.later less f.there))
    (λ more. g.fails (f.before g.index g.item g.later more g.there))
    in
    (index, same_Some f.item g.item (sym f.there ∙ ap (slice_get list) index ∙ g.there))

pub one_least : {A : Type 0} (P : A → Type 0) (number : A → ℕ) (x y : A) → IsLeast P number x → IsLeast P number y → number x ≡ number y
one_least P number x y f g =
    let below = f.least y g.holds in
    let above = g.least x f.holds in
    omega (arith, below, above)

-- what has a lesser number isn't so
pub least_from : {A : Type 0} (P : A → Type 0) (number : A → ℕ) (x : A) → P x → ((y : A) → number y < number x → ¬ P y) → IsLeast P number x
least_from P number x holds none = record {
  holds = holds;
  least = λ y other. elim (cases_lt (number y) (number x)) [ inl less ↦ absurd (none y less other) | inr more ↦ more ];
}
