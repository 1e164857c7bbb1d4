-- What the tiles of a box lack, as those beside a place are given the strengths that they have with it.
use Rattle.std.proofs.Common.{List, ◌≡◌, ◌≢◌, ◌⊎◌, ◌↔◌, ◌<◌, ◌+◌, ◌-◌, ℕ, length, get_or, refl, sym, ◌∙◌, ap, subst, inl, inr, arith}
use Rattle.std.proofs.Common.{get_or-set_same, get_or-set_other}
use Rattle.std.proofs.lemmas.Bool.{cases_lt}
use Rattle.std.proofs.lemmas.Bool.Decides.{eqb_tells}
use Rattle.std.proofs.Math.ListN.{set}
use Rattle.atam.specs.declared.site.Side.{Side}
use Rattle.atam.specs.declared.site.Site.{Site}
use Rattle.atam.specs.declared.place.Place.{Place}
use Rattle.atam.specs.declared.area.BoxArea.{BoxArea}
use Rattle.atam.specs.Sites.{InBox, IsBox, neighbor}
use Rattle.atam.specs.TileSystem.{TileSystem}
use Rattle.atam.specs.Assembly.{bond}
use Rattle.assembly.specs.Cells.{cell_count, site_at}
use Rattle.assembly.proofs.Cells.{site_at-injective, site_at-inside}
use Rattle.replay_order.specs.Inner.ReadyNumbers.{IsAmong}
use Rattle.replay_order.specs.Inner.Replays.{Waiting, Lowers, given_to}
use Rattle.replay_order.proofs.Pulls.{given_to-here, given_to-other}

-- one after the other
pub Lowers-both : (area : BoxArea) (f g : Site → ℕ) (a b c : Waiting) → Lowers area f a b → Lowers area g b c → Lowers area (λ m. f m + g m) a c
Lowers-both area f g a b c first second = record {
  old_area = first.old_area;
  new_area = second.new_area;
  same_first = second.same_first ∙ first.same_first;
  same_end = second.same_end ∙ first.same_end;
  lacks = λ i below. omega (arith, first.lacks i below, second.lacks i below);
  ready = λ i below. (
    λ is_in. elim ((second.ready i below).0 is_in) [
      | inl in_b ↦ elim ((first.ready i below).0 in_b) [
        | inl in_a ↦ inl in_a
        | inr passed ↦ inr (passed.0, omega (arith, passed.1, second.lacks i below))
      ]
      | inr passed ↦ inr (omega (arith, passed.0, first.lacks i below), passed.1)
    ],
    λ either. elim either [
      | inl in_a ↦ (second.ready i below).1 (inl ((first.ready i below).1 (inl in_a)))
      | inr passed ↦ elim (cases_lt 0 (get_or b.lacks i 0)) [
        | inl some ↦ (second.ready i below).1 (inr (some, passed.1))
        | inr none ↦ (second.ready i below).1 (inl ((first.ready i below).1 (inr (passed.0, omega (arith, none)))))
      ]
    ],
  );
}

module _ (area : BoxArea) (sys : TileSystem) (tiles : List Place) (p : Place) (d : Side) (old : Waiting) (old_area : old.area ≡ area) where
  -- nothing changes where nothing is to be given, or nothing lacks
  lowers_nothing : ((i : ℕ) → i < cell_count area → (given_to sys tiles p d (site_at area i) ≡ 0) ⊎ (get_or old.lacks i 0 ≡ 0)) → Lowers area (given_to sys tiles p d) old old
  lowers_nothing either = record {
    old_area = old_area;
    new_area = old_area;
    same_first = refl;
    same_end = refl;
    lacks = λ i below. elim (either i below) [ inl none ↦ omega (arith, none) | inr none ↦ omega (arith, none) ];
    ready = λ i below. (
      λ is_in. inl is_in,
      λ or_passed. elim or_passed [ inl is_in ↦ is_in | inr passed ↦ let never : ⊥ = omega (arith, passed.0, passed.1) in absurd never ],
    );
  }

  -- nothing is given to a site outside the box
  pub lowers_outside : IsBox area → ¬ InBox area (neighbor p.site d) → Lowers area (given_to sys tiles p d) old old
  lowers_outside limits outside =
      let apart_from : (i : ℕ) → i < cell_count area → neighbor p.site d ≢ site_at area i = λ i below same. outside (subst (InBox area) (sym same) (site_at-inside area i limits below)) in
      lowers_nothing (λ i below. inl (given_to-other sys tiles p d (site_at area i) (apart_from i below)))

  module _ (number : ℕ) (there : site_at area number ≡ neighbor p.site d) where
    apart : (i : ℕ) → i ≢ number → neighbor p.site d ≢ site_at area i
    apart i other same = other (site_at-injective area i number (sym same ∙ sym there))

    pub lowers_full : get_or old.lacks number 0 ≡ 0 → Lowers area (given_to sys tiles p d) old old
    lowers_full full = lowers_nothing (λ i below. elim (eqb_tells i number) [
      | inl same ↦ inr (ap (λ k. get_or old.lacks k 0) same.1 ∙ full)
      | inr differ ↦ inl (given_to-other sys tiles p d (site_at area i) (apart i differ.1))
    ])

    -- nothing is given where the tiles have no bond
    pub lowers_unbound : bond sys tiles p.site p.tile d ≡ 0 → Lowers area (given_to sys tiles p d) old old
    lowers_unbound none = lowers_nothing (λ i below. elim (eqb_tells i number) [
      | inl same ↦ inl (given_to-here sys tiles p d (site_at area i) (sym there ∙ ap (site_at area) (sym same.1)) ∙ none)
      | inr differ ↦ inl (given_to-other sys tiles p d (site_at area i) (apart i differ.1))
    ])

    -- a number is written
    pub lowers_one : (new : Waiting) (left : ℕ) → new.area ≡ area → new.first ≡ old.first → new.end ≡ old.end → number < length old.lacks → 0 < get_or old.lacks number 0 →
        left ≡ get_or old.lacks number 0 - bond sys tiles p.site p.tile d → new.lacks ≡ set old.lacks number left →
        ((m : ℕ) → IsAmong new.ready m ↔ (IsAmong old.ready m ⊎ ((m ≡ number) × (left ≡ 0)))) → Lowers area (given_to sys tiles p d) old new
    lowers_one new left new_area same_first same_end within some is written ready =
        let at_here : get_or new.lacks number 0 ≡ left = ap (λ l. get_or l number 0) written ∙ get_or-set_same old.lacks number left 0 within in
        let at_other : (i : ℕ) → i ≢ number → get_or new.lacks i 0 ≡ get_or old.lacks i 0 = λ i other.
        ap (λ l. get_or l i 0) written ∙ get_or-set_other old.lacks number i left 0 other
        in
        let Left : ℕ → Type 0 = λ i. get_or new.lacks i 0 ≡ get_or old.lacks i 0 - given_to sys tiles p d (site_at area i) in
        let left_here : Left number = omega (arith, at_here, is, given_to-here sys tiles p d (site_at area number) (sym there)) in
        record {
          old_area = old_area;
          new_area = new_area;
          same_first = same_first;
          same_end = same_end;
          lacks = λ i below. elim (eqb_tells i number) [
            | inl same ↦ subst Left (sym same.1) left_here
            | inr differ ↦ omega (arith, at_other i differ.1, given_to-other sys tiles p d (site_at area i) (apart i differ.1))
          ];
          ready = λ i below. (
            λ is_in. elim ((ready i).0 is_in) [
              | inl before ↦ inl before
              | inr passed ↦
                  let Some_at : ℕ → Type 0 = λ k. 0 < get_or old.lacks k 0 in
                  let None_at : ℕ → Type 0 = λ k. get_or new.lacks k 0 ≡ 0 in
                  inr (subst Some_at (sym passed.0) some, subst None_at (sym passed.0) (at_here ∙ passed.1))
            ],
            λ either. elim either [
              | inl before ↦ (ready i).1 (inl before)
              | inr passed ↦ elim (eqb_tells i number) [
                | inl same ↦ (ready i).1 (inr (same.1, sym at_here ∙ ap (λ k. get_or new.lacks k 0) (sym same.1) ∙ passed.1))
                | inr differ ↦ let never : ⊥ = omega (arith, at_other i differ.1, passed.0, passed.1) in absurd never
              ]
            ],
          );
        }
