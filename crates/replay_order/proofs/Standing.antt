-- What stands at the sites below a number: the beginning, and the other tiles there.
use Rattle.std.proofs.Common.{◌≡◌, ◌≢◌, ◌⊎◌, ◌++◌, ℕ, zero, suc, ◌+◌, List, [], ◌∷◌, Option, Some, None, Contains, append-nil, add-one, refl, sym, ◌∙◌, ap, subst, inl, inr, arith}
use Rattle.std.proofs.lemmas.Bool.{cases_lt}
use Rattle.std.proofs.lemmas.Option.{none-some, same_Some}
use Rattle.atam.specs.declared.site.Site.{Site}
use Rattle.atam.specs.declared.place.TypeId.{TypeId}
use Rattle.atam.specs.declared.place.Place.{Place}
use Rattle.atam.specs.declared.area.BoxArea.{BoxArea}
use Rattle.atam.specs.Placements.{HasDistinctSites, IsPartOf, tile_at}
use Rattle.atam.proofs.Lists.{some_or_none, Contains-push}
use Rattle.atam.proofs.Placements.{at_site, tile_at-here, tile_at-past, tile_at-append, tile_at-append_past, tile_at-Contains, HasDistinctSites-push}
use Rattle.assembly.specs.Cells.{site_at}
use Rattle.assembly.proofs.Cells.{site_at-injective}
use Rattle.replay_order.specs.Inner.Spans.{place_unless, listed_below, IsSiteBetween}

-- a tile follows where there is one, and none of the beginning
pub unless_cases : (begun tile : Option TypeId) (m : Site) →
    (((begun ≢ None) ⊎ (tile ≡ None)) × (place_unless begun tile m ≡ [])) ⊎
    ((t : TypeId) × (begun ≡ None) × (tile ≡ Some t) × (place_unless begun tile m ≡ record { site = m; tile = t } ∷ []))
unless_cases (Some b) tile m = inl (inl (λ none. none-some b (sym none)), refl)
unless_cases None None m = inl (inr refl, refl)
unless_cases None (Some t) m = inr (t, refl, refl, refl)

-- one site more may be below
between_more : (area : BoxArea) (first n : ℕ) (m : Site) → IsSiteBetween area first n m → IsSiteBetween area first (suc n) m
between_more area first n m between = record { number = between.number; from = between.from; before = omega (arith, between.before); site = between.site }

module _ (area : BoxArea) (tiles begun : List Place) where
  -- what stands is of the beginning, or is a tile below where the beginning has none
  pub standing_from : (n : ℕ) (m : Site) (t : TypeId) → tile_at (listed_below area tiles begun n) m ≡ Some t →
      (tile_at begun m ≡ Some t) ⊎ ((tile_at begun m ≡ None) × IsSiteBetween area 0 n m × (tile_at tiles m ≡ Some t))
  standing_from zero m t found = inl found
  standing_from (suc n) m t found =
      let here = site_at area n in
      let old = listed_below area tiles begun n in
      let Found : List Place → Type 0 = λ more. tile_at (old ++ more) m ≡ Some t in
      let earlier : tile_at old m ≡ Some t → (tile_at begun m ≡ Some t) ⊎ ((tile_at begun m ≡ None) × IsSiteBetween area 0 (suc n) m × (tile_at tiles m ≡ Some t)) = λ in_old.
      elim (standing_from n m t in_old) [ inl first ↦ inl first | inr other ↦ inr (other.0, between_more area 0 n m other.1, other.2) ]
      in
      elim (unless_cases (tile_at begun here) (tile_at tiles here) here) [
        | inl none ↦ earlier (subst (λ (l : List Place). tile_at l m ≡ Some t) (append-nil old) (subst Found none.1 found))
        | inr some ↦
            let p : Place = record { site = here; tile = some.0 } in
            let pushed : tile_at (old ++ p ∷ []) m ≡ Some t = subst Found some.3 found in
            elim (some_or_none (tile_at old m)) [
              | inr in_old ↦ earlier (in_old.1 ∙ sym (tile_at-append old (p ∷ []) m in_old.0 in_old.1) ∙ pushed)
              | inl empty ↦
                  let last : tile_at (p ∷ []) m ≡ Some t = sym (tile_at-append_past old (p ∷ []) m empty) ∙ pushed in
                  elim (at_site p m) [
                    | inl at ↦
                        let None_at : Site → Type 0 = λ s. tile_at begun s ≡ None in
                        let Tile_at : Site → Type 0 = λ s. tile_at tiles s ≡ Some t in
                        let same : some.0 ≡ t = same_Some some.0 t (sym (tile_at-here p [] m at) ∙ last) in
                        inr (subst None_at at some.1, record { number = n; from = omega arith; before = omega arith; site = at }, subst Tile_at at (some.2 ∙ ap (λ u. Some u) same))
                    | inr other ↦ absurd (none-some t (sym (tile_at-past p [] m other) ∙ last))
                  ]
            ]
      ]

  -- the site with the number itself is empty before, if it isn't the beginning's
  pub below_empty : (n : ℕ) → tile_at begun (site_at area n) ≡ None → tile_at (listed_below area tiles begun n) (site_at area n) ≡ None
  below_empty n none = elim (some_or_none (tile_at (listed_below area tiles begun n) (site_at area n))) [
    | inl empty ↦ empty
    | inr some ↦ elim (standing_from n (site_at area n) some.0 some.1) [
      | inl first ↦ absurd (none-some some.0 (sym none ∙ first))
      | inr other ↦
          let one : other.1.number ≡ n = site_at-injective area other.1.number n other.1.site in
          let never : ⊥ = omega (arith, one, other.1.before) in
          absurd never
    ]
  ]

  -- the beginning stands
  pub standing_begun : (n : ℕ) (m : Site) (t : TypeId) → tile_at begun m ≡ Some t → tile_at (listed_below area tiles begun n) m ≡ Some t
  standing_begun zero m t found = found
  standing_begun (suc n) m t found =
      tile_at-append (listed_below area tiles begun n) (place_unless (tile_at begun (site_at area n)) (tile_at tiles (site_at area n)) (site_at area n)) m t (standing_begun n m t found)

  -- and so does each tile below where the beginning has none
  pub standing_tile : (n : ℕ) (m : Site) (t : TypeId) → tile_at begun m ≡ None → IsSiteBetween area 0 n m → tile_at tiles m ≡ Some t →
      tile_at (listed_below area tiles begun n) m ≡ Some t
  standing_tile zero m t none between found = let never : ⊥ = omega (arith, between.before) in absurd never
  standing_tile (suc n) m t none between found =
      let here = site_at area n in
      let old = listed_below area tiles begun n in
      let more = place_unless (tile_at begun here) (tile_at tiles here) here in
      elim (cases_lt between.number n) [
        | inl lower ↦ tile_at-append old more m t (standing_tile n m t none (record { number = between.number; from = between.from; before = lower; site = between.site }) found)
        | inr last ↦
            let one : between.number ≡ n = omega (arith, last, between.before) in
            let at : here ≡ m = ap (λ k. site_at area k) (sym one) ∙ between.site in
            let none_here : tile_at begun here ≡ None = subst (λ s. tile_at begun s ≡ None) (sym at) none in
            let found_here : tile_at tiles here ≡ Some t = subst (λ s. tile_at tiles s ≡ Some t) (sym at) found in
            elim (unless_cases (tile_at begun here) (tile_at tiles here) here) [
              | inl none_more ↦ elim none_more.0 [ inl begins ↦ absurd (begins none_here) | inr empty ↦ absurd (none-some t (sym empty ∙ found_here)) ]
              | inr some ↦
                  let p : Place = record { site = here; tile = some.0 } in
                  let same : some.0 ≡ t = same_Some some.0 t (sym some.2 ∙ found_here) in
                  let empty : tile_at old m ≡ None = subst (λ s. tile_at old s ≡ None) at (below_empty n none_here) in
                  ap (λ (l : List Place). tile_at (old ++ l) m) some.3 ∙ tile_at-append_past old (p ∷ []) m empty ∙ tile_at-here p [] m at ∙ ap (λ u. Some u) same
            ]
      ]

  -- no two of these places are at one site
  pub standing_distinct : HasDistinctSites begun → (n : ℕ) → HasDistinctSites (listed_below area tiles begun n)
  standing_distinct distinct zero = distinct
  standing_distinct distinct (suc n) =
      let here = site_at area n in
      let old = listed_below area tiles begun n in
      elim (unless_cases (tile_at begun here) (tile_at tiles here) here) [
        | inl none ↦ subst (λ (l : List Place). HasDistinctSites l) (sym (ap (λ (l : List Place). old ++ l) none.1 ∙ append-nil old)) (standing_distinct distinct n)
        | inr some ↦
            let p : Place = record { site = here; tile = some.0 } in
            subst (λ (l : List Place). HasDistinctSites (old ++ l)) (sym some.3) (HasDistinctSites-push old p (standing_distinct distinct n) (below_empty n some.1))
      ]

  -- and each is a tile, if the beginning's are
  pub standing_part : IsPartOf begun tiles → (n : ℕ) → IsPartOf (listed_below area tiles begun n) tiles
  standing_part part zero = part
  standing_part part (suc n) =
      let here = site_at area n in
      let old = listed_below area tiles begun n in
      elim (unless_cases (tile_at begun here) (tile_at tiles here) here) [
        | inl none ↦ subst (λ (l : List Place). IsPartOf l tiles) (sym (ap (λ (l : List Place). old ++ l) none.1 ∙ append-nil old)) (standing_part part n)
        | inr some ↦
            let p : Place = record { site = here; tile = some.0 } in
            subst (λ (l : List Place). IsPartOf (old ++ l) tiles) (sym some.3) (λ q contains. elim (Contains-push old p q contains) [
              | inl in_old ↦ standing_part part n q in_old
              | inr new ↦ subst (Contains tiles) new (tile_at-Contains tiles here some.0 some.2)
            ])
      ]

  -- nothing more stands where there is no tile, or one of the beginning
  pub standing_same : (n : ℕ) → (tile_at begun (site_at area n) ≢ None) ⊎ (tile_at tiles (site_at area n) ≡ None) → listed_below area tiles begun (n + 1) ≡ listed_below area tiles begun n
  standing_same n none =
      let here = site_at area n in
      let old = listed_below area tiles begun n in
      let more : listed_below area tiles begun (suc n) ≡ old = elim (unless_cases (tile_at begun here) (tile_at tiles here) here) [
        | inl nothing ↦ ap (λ (l : List Place). old ++ l) nothing.1 ∙ append-nil old
        | inr some ↦ elim none [ inl begins ↦ absurd (begins some.1) | inr empty ↦ absurd (none-some some.0 (sym empty ∙ some.2)) ]
      ]
      in
      ap (listed_below area tiles begun) (add-one n) ∙ more

  -- and else the tile does
  pub standing_more : (n : ℕ) (t : TypeId) → tile_at begun (site_at area n) ≡ None → tile_at tiles (site_at area n) ≡ Some t →
      listed_below area tiles begun (n + 1) ≡ listed_below area tiles begun n ++ record { site = site_at area n; tile = t } ∷ []
  standing_more n t none tile =
      let here = site_at area n in
      let old = listed_below area tiles begun n in
      let p : TypeId → Place = λ u. record { site = here; tile = u } in
      let more : listed_below area tiles begun (suc n) ≡ (old ++ p t ∷ []) = elim (unless_cases (tile_at begun here) (tile_at tiles here) here) [
        | inl nothing ↦ elim nothing.0 [ inl begins ↦ absurd (begins none) | inr empty ↦ absurd (none-some t (sym empty ∙ tile)) ]
        | inr some ↦ ap (λ (l : List Place). old ++ l) some.3 ∙ ap (λ u. old ++ p u ∷ []) (same_Some some.0 t (sym some.2 ∙ tile))
      ]
      in
      ap (listed_below area tiles begun) (add-one n) ∙ more
