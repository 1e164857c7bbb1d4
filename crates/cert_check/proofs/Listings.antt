-- The numbers of the entries by their sites, with one entry more.
use Rattle.std.proofs.Common.{◌≡◌, ◌≢◌, ◌<◌, ◌≤◌, ◌+◌, ◌-◌, ◌++◌, ◌∷◌, ◌∙◌, [], ℕ, zero, suc, cond, List, length, take, set, get_or, get_or-set_same, get_or-set_other, Option, Some, None, slice_get, option_map, All, Contains, refl, sym, ap, subst, inl, inr, arith, add-one}
use Rattle.std.specs.Option.{option_or}
use Rattle.std.proofs.lemmas.Bool.{cases_eq}
use Rattle.std.proofs.Math.Nat.{le_trans}
use Rattle.std.proofs.lemmas.List.{length-map}
use Rattle.std.proofs.lemmas.List.Folds.{find-append}
use Rattle.std.proofs.lemmas.Option.{none-some, slice_get-map}
use Rattle.atam.specs.declared.area.BoxArea.{BoxArea}
use Rattle.atam.specs.declared.site.Site.{Site}
use Rattle.atam.specs.Sites.{InBox, IsBox, same_site}
use Rattle.atam.specs.Placements.{HasDistinctSites, tile_at}
use Rattle.atam.proofs.Boxes.{same_site_tells}
use Rattle.atam.proofs.Lists.{some_or_none, take_step, All-slice_get, Contains-slice_get}
use Rattle.atam.proofs.Placements.{tile_at-here, tile_at-past, distinct-empty}
use Rattle.assembly.specs.Cells.{cell_count, site_at}
use Rattle.atam.proofs.Count.{count_in_box}
use Rattle.assembly.proofs.Cells.{site_at-injective, cell_count-most}
use Rattle.cert_check.specs.declared.entry.Entry.{Entry}
use Rattle.cert_check.specs.Certificates.{places_of, entry_at}
use Rattle.cert_check.specs.Inner.Listings.{entry_numbered}
use Rattle.cert_check.proofs.Entries.{entry_at-some}

-- what stands at a site is the tile of the entry there
pub tile_at-entry : (c : List Entry) (m : Site) → tile_at (places_of c) m ≡ option_map (λ e. e.place.tile) (entry_at c m)
tile_at-entry [] m = refl
tile_at-entry (x ∷ c) m = elim (same_site_tells x.place.site m) [
  | inl here ↦
      tile_at-here x.place (places_of c) m here.1
      ∙ sym (ap (λ b. option_map (λ (e : Entry). e.place.tile) (cond b (Some x) (entry_at c m))) here.0)
  | inr other ↦
      tile_at-past x.place (places_of c) m other.1 ∙ tile_at-entry c m
      ∙ sym (ap (λ b. option_map (λ (e : Entry). e.place.tile) (cond b (Some x) (entry_at c m))) other.0)
]

map-take : (c : List Entry) (n : ℕ) → places_of (take n c) ≡ take n (places_of c)
map-take c zero = refl
map-take [] (suc n) = refl
map-take (x ∷ c) (suc n) = ap (λ l. x.place ∷ l) (map-take c n)

-- no entry before one is at its site
pub none_before : (c : List Entry) (i : ℕ) (e : Entry) → HasDistinctSites (places_of c) → slice_get c i ≡ Some e → entry_at (take i c) e.place.site ≡ None
none_before c i e distinct there =
    let at : slice_get (places_of c) i ≡ Some e.place = slice_get-map (λ (f : Entry). f.place) c i ∙ ap (option_map (λ (f : Entry). f.place)) there in
    let empty : tile_at (places_of (take i c)) e.place.site ≡ None =
    ap (λ l. tile_at l e.place.site) (map-take c i) ∙ distinct-empty (places_of c) i e.place distinct at
    in
    elim (some_or_none (entry_at (take i c) e.place.site)) [
      | inl none ↦ none
      | inr some ↦
          absurd (none-some some.0.place.tile (
          sym (sym (ap (option_map (λ (f : Entry). f.place.tile)) some.1) ∙ sym (tile_at-entry (take i c) e.place.site) ∙ empty)
          ))
    ]

or_none : (o : Option Entry) → option_or o None ≡ o
or_none None = refl
or_none (Some e) = refl

-- one entry more
entry_at-push_here : (c : List Entry) (e : Entry) (m : Site) → e.place.site ≡ m → entry_at c m ≡ None → entry_at (c ++ e ∷ []) m ≡ Some e
entry_at-push_here c e m here none =
    let last : entry_at (e ∷ []) m ≡ Some e = elim (same_site_tells e.place.site m) [
      | inl same ↦ ap (λ b. cond b (Some e) None) same.0
      | inr other ↦ absurd (other.1 here)
    ] in
    find-append (λ (f : Entry). same_site f.place.site m) c (e ∷ []) ∙ (λ k. option_or (none k) (last k))

entry_at-push_other : (c : List Entry) (e : Entry) (m : Site) → e.place.site ≢ m → entry_at (c ++ e ∷ []) m ≡ entry_at c m
entry_at-push_other c e m apart =
    let last : entry_at (e ∷ []) m ≡ None = elim (same_site_tells e.place.site m) [
      | inl same ↦ absurd (apart same.1)
      | inr other ↦ ap (λ b. cond b (Some e) None) other.0
    ] in
    find-append (λ (f : Entry). same_site f.place.site m) c (e ∷ []) ∙ ap (option_or (entry_at c m)) last ∙ or_none (entry_at c m)

module _ (area : BoxArea) (c : List Entry) (numbers : List ℕ) (i : ℕ) (e : Entry) (number : ℕ) where
  pub within_more : (most : (k : ℕ) → k < cell_count area → get_or numbers k 0 ≤ i) → length numbers ≡ cell_count area → number < cell_count area →
      (k : ℕ) → k < cell_count area → get_or (set numbers number (i + 1)) k 0 ≤ i + 1
  within_more most count within k below = elim (cases_eq k number) [
    | inl same ↦
        let there : number < length numbers = omega (arith, within, count) in
        let now : get_or (set numbers number (i + 1)) number 0 ≡ i + 1 = get_or-set_same numbers number (i + 1) 0 there in
        omega (arith, ap (λ j. get_or (set numbers number (i + 1)) j 0) same, now)
    | inr other ↦
        let still : get_or (set numbers number (i + 1)) k 0 ≡ get_or numbers k 0 = get_or-set_other numbers number k (i + 1) 0 other in
        omega (arith, still, most k below)
  ]

  module _ (distinct : HasDistinctSites (places_of c)) (there : slice_get c i ≡ Some e) (here : site_at area number ≡ e.place.site) where
    pub each_more : ((k : ℕ) → k < cell_count area → entry_numbered c (get_or numbers k 0) ≡ entry_at (take i c) (site_at area k)) →
        length numbers ≡ cell_count area → number < cell_count area →
        (k : ℕ) → k < cell_count area → entry_numbered c (get_or (set numbers number (i + 1)) k 0) ≡ entry_at (take (i + 1) c) (site_at area k)
    each_more each count within k below =
        let more : take (i + 1) c ≡ take i c ++ e ∷ [] = ap (λ n. take n c) (add-one i) ∙ take_step c i e there in
        let Entries : List Entry → Type 0 = λ l. entry_numbered c (get_or (set numbers number (i + 1)) k 0) ≡ entry_at l (site_at area k) in
        subst Entries (sym more) (elim (cases_eq k number) [
          | inl same ↦
              let inside : number < length numbers = omega (arith, within, count) in
              let now : get_or (set numbers number (i + 1)) number 0 ≡ i + 1 = get_or-set_same numbers number (i + 1) 0 inside in
              let at : e.place.site ≡ site_at area k = sym (ap (site_at area) same ∙ here) in
              let None_at : Site → Type 0 = λ m. entry_at (take i c) m ≡ None in
              ap (λ j. entry_numbered c (get_or (set numbers number (i + 1)) j 0)) same ∙ ap (entry_numbered c) (now ∙ add-one i) ∙ there
              ∙ sym (entry_at-push_here (take i c) e (site_at area k) at (subst None_at at (none_before c i e distinct there)))
          | inr other ↦
              let still : get_or (set numbers number (i + 1)) k 0 ≡ get_or numbers k 0 = get_or-set_other numbers number k (i + 1) 0 other in
              let apart : e.place.site ≢ site_at area k = λ same. other (site_at-injective area k number (sym same ∙ sym here)) in
              ap (entry_numbered c) still ∙ each k below ∙ sym (entry_at-push_other (take i c) e (site_at area k) apart)
        ])

-- the place of an entry
pub place_at : (c : List Entry) (i : ℕ) (e : Entry) → slice_get c i ≡ Some e → slice_get (places_of c) i ≡ Some e.place
place_at c i e there = slice_get-map (λ (f : Entry). f.place) c i ∙ ap (option_map (λ (f : Entry). f.place)) there

pub entry_inside : (area : BoxArea) (c : List Entry) (e : Entry) → All (λ p. InBox area p.site) (places_of c) → Contains c e → InBox area e.place.site
entry_inside area c e inside listed =
    let at = Contains-slice_get c e listed in
    All-slice_get (λ p. InBox area p.site) (places_of c) at.0 e.place inside (place_at c at.0 e at.2)

-- no more entries than a box has sites
pub few : (area : BoxArea) (c : List Entry) → IsBox area → HasDistinctSites (places_of c) → All (λ p. InBox area p.site) (places_of c) → length c ≤ 1048576
few area c limits distinct inside =
    let same = length-map c (λ (e : Entry). e.place) in
    let most = le_trans (count_in_box area (places_of c) distinct inside) (cell_count-most area limits) in
    omega (arith, same, most)

-- no entry is outside a box that has all of them
pub none_outside : (area : BoxArea) (c : List Entry) (m : Site) → All (λ p. InBox area p.site) (places_of c) → ¬ InBox area m → None ≡ entry_at c m
none_outside area c m inside outside = elim (some_or_none (entry_at c m)) [
  | inl none ↦ sym none
  | inr some ↦
      let found = entry_at-some c m some.0 some.1 in
      absurd (outside (subst (InBox area) found.1 (entry_inside area c some.0 inside found.0)))
]

-- the entry with a number that isn't 0
pub numbered_some : (c : List Entry) (n : ℕ) (e : Entry) → n ≢ 0 → slice_get c (n - 1) ≡ Some e → entry_numbered c n ≡ Some e
numbered_some c zero e some there = absurd (some refl)
numbered_some c (suc n) e some there = ap (slice_get c) {x = n} (omega arith) ∙ there
