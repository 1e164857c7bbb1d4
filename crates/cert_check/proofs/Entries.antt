-- The entries of a certificate, and what stands where they say.
use Rattle.std.proofs.Common.{◌≡◌, ◌≢◌, false, cond, List, [], ◌∷◌, get_or, Some, None, slice_get, option_map, Contains, refl, sym, ◌∙◌, ap, subst, inl, inr, arith}
use Rattle.std.specs.Option.{option_map_or}
use Rattle.std.proofs.lemmas.Int.{ints}
use Rattle.std.proofs.lemmas.Bool.{cases_order}
use Rattle.std.proofs.lemmas.Option.{same_Some, none-some, slice_get-map, slice_get_within, get_or_from_slice_get}
use Rattle.atam.specs.declared.site.Side.{Side}
use Rattle.atam.specs.declared.site.Side.TheVariants.{North, East, South, West}
use Rattle.atam.specs.declared.site.Site.{Site}
use Rattle.atam.specs.declared.place.TypeId.{TypeId}
use Rattle.atam.specs.declared.place.Place.{Place}
use Rattle.atam.specs.Sites.{neighbor, same_site}
use Rattle.atam.specs.Placements.{HasDistinctSites, tile_at}
use Rattle.atam.proofs.Boxes.{same_site_tells}
use Rattle.atam.proofs.Lists.{some_or_none, slice_get-Contains, Contains-slice_get, Contains-here, Contains-there}
use Rattle.atam.proofs.Placements.{tile_at-place, tile_at-past, Contains-tile_at}
use Rattle.cert_check.specs.declared.entry.Entry.{Entry}
use Rattle.cert_check.specs.Certificates.{states, places_of, entry_at}

-- a neighbour is another site
pub neighbor-other : (m : Site) (d : Side) → neighbor m d ≢ m
neighbor-other m North same = let y = ap (λ n. n.y) same in omega (arith, ints, y)
neighbor-other m East same = let x = ap (λ n. n.x) same in omega (arith, ints, x)
neighbor-other m South same = let y = ap (λ n. n.y) same in omega (arith, ints, y)
neighbor-other m West same = let x = ap (λ n. n.x) same in omega (arith, ints, x)

-- a place of an entry, and the entry of a place
pub place_of : (c : List Entry) (e : Entry) → Contains c e → Contains (places_of c) e.place
place_of c e contains =
    let at = Contains-slice_get c e contains in
    slice_get-Contains (places_of c) at.0 e.place (slice_get-map (λ (f : Entry). f.place) c at.0 ∙ ap (option_map (λ (f : Entry). f.place)) at.2)

pub entry_of : (c : List Entry) (p : Place) → Contains (places_of c) p → (e : Entry) × Contains c e × (e.place ≡ p)
entry_of c p contains =
    let at = Contains-slice_get (places_of c) p contains in
    let here = sym (slice_get-map (λ (f : Entry). f.place) c at.0) ∙ at.2 in
    elim (some_or_none (slice_get c at.0)) [
      | inl none ↦ absurd (none-some p (sym (ap (option_map (λ (f : Entry). f.place)) none) ∙ here))
      | inr some ↦
          (some.0, slice_get-Contains c at.0 some.0 some.1, same_Some some.0.place p (sym (ap (option_map (λ (f : Entry). f.place)) some.1) ∙ here))
    ]

-- the entry that is found at a site is listed, and of this site
pub entry_at-some : (c : List Entry) (m : Site) (e : Entry) → entry_at c m ≡ Some e → Contains c e × (e.place.site ≡ m)
entry_at-some [] m e found = absurd (none-some e found)
entry_at-some (x ∷ c) m e found =
    let first : cond (same_site x.place.site m) (Some x) (entry_at c m) ≡ Some e = found in
    elim (same_site_tells x.place.site m) [
      | inl here ↦
          let one : x ≡ e = same_Some x e (rw here.0 at first) in
          (subst (Contains (x ∷ c)) one (Contains-here x c), ap (λ f. f.place.site) (sym one) ∙ here.1)
      | inr other ↦ let rest = entry_at-some c m e (rw other.0 at first) in (Contains-there x e c rest.0, rest.1)
    ]

-- where none is found nothing stands
pub entry_at-none : (c : List Entry) (m : Site) → entry_at c m ≡ None → tile_at (places_of c) m ≡ None
entry_at-none [] m none = refl
entry_at-none (x ∷ c) m none =
    let first : cond (same_site x.place.site m) (Some x) (entry_at c m) ≡ None = none in
    elim (same_site_tells x.place.site m) [
      | inl here ↦ absurd (none-some x (sym (rw here.0 at first)))
      | inr other ↦ tile_at-past x.place (places_of c) m other.1 ∙ entry_at-none c m (rw other.0 at first)
    ]

-- what stands at a site is an entry's tile
pub entry_standing : (c : List Entry) (m : Site) (t : TypeId) → tile_at (places_of c) m ≡ Some t → (e : Entry) × Contains c e × (e.place.site ≡ m) × (e.place.tile ≡ t)
entry_standing c m t found =
    let at = tile_at-place (places_of c) m t found in
    let e = entry_of c at.1 (slice_get-Contains (places_of c) at.0 at.1 at.2) in
    (e.0, e.1, ap (λ p. p.site) e.2 ∙ at.3, ap (λ p. p.tile) e.2 ∙ at.4)

module _ (c : List Entry) (distinct : HasDistinctSites (places_of c)) where
  -- two entries at one site are one
  pub same_entry : (e f : Entry) → Contains c e → Contains c f → e.place.site ≡ f.place.site → e ≡ f
  same_entry e f in_e in_f same =
      let i = Contains-slice_get c e in_e in
      let j = Contains-slice_get c f in_f in
      let at_i : slice_get (places_of c) i.0 ≡ Some e.place = slice_get-map (λ (g : Entry). g.place) c i.0 ∙ ap (option_map (λ (g : Entry). g.place)) i.2 in
      let at_j : slice_get (places_of c) j.0 ≡ Some f.place = slice_get-map (λ (g : Entry). g.place) c j.0 ∙ ap (option_map (λ (g : Entry). g.place)) j.2 in
      let first : get_or (places_of c) i.0 e.place ≡ e.place = get_or_from_slice_get (places_of c) i.0 e.place e.place at_i in
      let second : get_or (places_of c) j.0 e.place ≡ f.place = get_or_from_slice_get (places_of c) j.0 f.place e.place at_j in
      let sites : (get_or (places_of c) i.0 e.place).site ≡ (get_or (places_of c) j.0 e.place).site =
      ap (λ p. p.site) first ∙ same ∙ sym (ap (λ p. p.site) second)
      in
      elim (cases_order i.0 j.0) [
        | inl equal ↦ same_Some e f (sym i.2 ∙ ap (slice_get c) equal ∙ j.2)
        | inr rest ↦ elim rest [
          | inl less ↦ absurd (distinct i.0 j.0 e.place less (slice_get_within (places_of c) j.0 f.place at_j) sites)
          | inr more ↦ absurd (distinct j.0 i.0 e.place more (slice_get_within (places_of c) i.0 e.place at_i) (sym sites))
        ]
      ]

  -- an entry is found at its site
  pub entry_at-is : (e : Entry) (m : Site) → Contains c e → e.place.site ≡ m → entry_at c m ≡ Some e
  entry_at-is e m contains here = elim (some_or_none (entry_at c m)) [
    | inl none ↦
        let Empty : Site → Type 0 = λ n. tile_at (places_of c) n ≡ None in
        absurd (none-some e.place.tile (sym (subst Empty (sym here) (entry_at-none c m none)) ∙ Contains-tile_at (places_of c) e.place distinct (place_of c e contains)))
    | inr some ↦
        let found = entry_at-some c m some.0 some.1 in
        some.1 ∙ ap (λ f. Some f) (same_entry some.0 e found.0 contains (found.1 ∙ sym here))
  ]

  -- the sides that are stated at its site are its own
  pub states_at-is : (e : Entry) (m : Site) (d : Side) → Contains c e → e.place.site ≡ m → option_map_or (λ f. states f d) (entry_at c m) false ≡ states e d
  states_at-is e m d contains here = ap (λ o. option_map_or (λ f. states f d) o false) (entry_at-is e m contains here)

  -- and where nothing stands none are
  pub states_at-none : (m : Site) (d : Side) → tile_at (places_of c) m ≡ None → option_map_or (λ f. states f d) (entry_at c m) false ≡ false
  states_at-none m d empty = elim (some_or_none (entry_at c m)) [
    | inl none ↦ ap (λ o. option_map_or (λ f. states f d) o false) none
    | inr some ↦
        let found = entry_at-some c m some.0 some.1 in
        let Empty : Site → Type 0 = λ n. tile_at (places_of c) n ≡ None in
        absurd (none-some some.0.place.tile (sym (subst Empty (sym found.1) empty) ∙ Contains-tile_at (places_of c) some.0.place distinct (place_of c some.0 found.0)))
  ]

  -- the tile of an entry stands at its site
  pub stands : (e : Entry) (m : Site) → Contains c e → e.place.site ≡ m → tile_at (places_of c) m ≡ Some e.place.tile
  stands e m contains here =
      let At : Site → Type 0 = λ n. tile_at (places_of c) n ≡ Some e.place.tile in
      subst At here (Contains-tile_at (places_of c) e.place distinct (place_of c e contains))
