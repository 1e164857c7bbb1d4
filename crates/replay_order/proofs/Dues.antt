-- What is due at each site: nothing at a seed.
use Rattle.std.proofs.Common.{◌≡◌, ◌<◌, ◌+◌, ℕ, List, [], ◌∷◌, ◌++◌, Some, None, length, take, get_or, slice_get, sym, ◌∙◌, ap, subst, inl, inr, get_or-set_same, get_or-set_other}
use Rattle.std.specs.Option.{option_map_or}
use Rattle.std.proofs.lemmas.Bool.Decides.{eqb_tells}
use Rattle.std.proofs.Math.ListN.{set}
use Rattle.atam.specs.declared.site.Site.{Site}
use Rattle.atam.specs.declared.place.TypeId.{TypeId}
use Rattle.atam.specs.declared.place.Place.{Place}
use Rattle.atam.specs.declared.area.BoxArea.{BoxArea}
use Rattle.atam.specs.Placements.{HasDistinctSites, tile_at}
use Rattle.atam.proofs.Placements.{distinct-empty}
use Rattle.atam.proofs.Tiles.{tile_at-push_other, tile_at-push_here}
use Rattle.assembly.specs.Cells.{site_at}
use Rattle.assembly.proofs.Cells.{site_at-injective}
use Rattle.assembly.proofs.Putting.{take_more}
use Rattle.replay_order.specs.Inner.Replays.{due_at}

pub due_at-seed : (seeds : List Place) (tau : ℕ) (m : Site) (t : TypeId) → tile_at seeds m ≡ Some t → due_at seeds tau m ≡ 0
due_at-seed seeds tau m t seed = ap (λ o. option_map_or (λ _. 0) o tau) seed

pub due_at-other : (seeds : List Place) (tau : ℕ) (m : Site) → tile_at seeds m ≡ None → due_at seeds tau m ≡ tau
due_at-other seeds tau m none = ap (λ o. option_map_or (λ _. 0) o tau) none

-- one seed more, at whose number nothing is due
module _ (area : BoxArea) (seeds : List Place) (k : ℕ) (p : Place) (tau : ℕ) (dues : List ℕ) (number : ℕ) (distinct : HasDistinctSites seeds)
    (there : slice_get seeds k ≡ Some p) (is : site_at area number ≡ p.site) (within : number < length dues) where
  pub dues_more : (i : ℕ) → get_or dues i 0 ≡ due_at (take k seeds) tau (site_at area i) → get_or (set dues number 0) i 0 ≡ due_at (take (k + 1) seeds) tau (site_at area i)
  dues_more i before =
      let Due : List Place → Type 0 = λ s. get_or (set dues number 0) i 0 ≡ due_at s tau (site_at area i) in
      let s = take k seeds in
      let more : Due (s ++ p ∷ []) = elim (eqb_tells i number) [
        | inl same ↦
            let At : Site → Type 0 = λ n. tile_at (s ++ p ∷ []) n ≡ Some p.tile in
            let here : site_at area i ≡ p.site = ap (λ j. site_at area j) same.1 ∙ is in
            let seed = subst At (sym here) (tile_at-push_here s p (distinct-empty seeds k p distinct there)) in
            ap (λ j. get_or (set dues number 0) j 0) same.1 ∙ get_or-set_same dues number 0 0 within ∙ sym (due_at-seed (s ++ p ∷ []) tau (site_at area i) p.tile seed)
        | inr differ ↦
            let other = tile_at-push_other s p (site_at area i) (λ one. differ.1 (site_at-injective area i number (sym one ∙ sym is))) in
            get_or-set_other dues number i 0 0 differ.1 ∙ before ∙ ap (λ o. option_map_or (λ _. 0) o tau) (sym other)
      ]
      in
      subst Due (sym (take_more seeds k p there)) more

  -- and what was 0 stays 0
  pub none_due_more : (i : ℕ) → get_or dues i 0 ≡ 0 → get_or (set dues number 0) i 0 ≡ 0
  none_due_more i before = elim (eqb_tells i number) [
    | inl same ↦ ap (λ j. get_or (set dues number 0) j 0) same.1 ∙ get_or-set_same dues number 0 0 within
    | inr differ ↦ get_or-set_other dues number i 0 0 differ.1 ∙ before
  ]
