-- What is told of the sites of a box with one place more, and of a site beside one of it.
use Rattle.std.proofs.Common.{◌≡◌, ◌<◌, ◌++◌, ◌∷◌, ◌∙◌, [], ℕ, Bool, true, false, is_some, List, length, length-set, set, All, Some, slice_get, refl, sym, ap, inl, inr, arith}
use Rattle.std.proofs.lemmas.Bool.{cases_eq}
use Rattle.std.proofs.lemmas.Option.{same_Some}
use Rattle.std.proofs.lemmas.List.Elements.{All-contains, All-push}
use Rattle.atam.specs.declared.area.BoxArea.{BoxArea}
use Rattle.atam.specs.declared.site.Site.{Site}
use Rattle.atam.specs.declared.place.Place.{Place}
use Rattle.atam.specs.Sites.{InBox}
use Rattle.atam.specs.Placements.{tile_at}
use Rattle.atam.proofs.Lists.{some_or_none}
use Rattle.atam.proofs.Placements.{tile_at-Contains, tile_at-append, tile_at-append_past, tile_at-here}
use Rattle.atam.proofs.Tiles.{tile_at-push_other}
use Rattle.assembly.specs.Cells.{cell_count, site_at}
use Rattle.assembly.proofs.Cells.{site_at-injective}
use Rattle.local_check.specs.Inner.StoodSites.{StoodTable, TellsSites}
use Rattle.local_check.proofs.Sites.{slice_get-some, slice_get-set, slice_get-apart}

-- a tile at the end stands there
stands_last : (tiles : List Place) (p : Place) → is_some (tile_at (tiles ++ p ∷ []) p.site) ≡ true
stands_last tiles p = elim (some_or_none (tile_at tiles p.site)) [
  | inl empty ↦ ap is_some (tile_at-append_past tiles (p ∷ []) p.site empty ∙ tile_at-here p [] p.site refl)
  | inr some ↦ ap is_some (tile_at-append tiles (p ∷ []) p.site some.0 some.1)
]

-- none stands outside a box that has all of them
pub none_outside : (area : BoxArea) (tiles : List Place) (m : Site) → All (λ p. InBox area p.site) tiles → ¬ InBox area m → false ≡ is_some (tile_at tiles m)
none_outside area tiles m inside outside = elim (some_or_none (tile_at tiles m)) [
  | inl empty ↦ sym (ap is_some empty)
  | inr some ↦
      let q : Place = record { site = m; tile = some.0 } in
      absurd (outside (All-contains (λ p. InBox area p.site) tiles q inside (tile_at-Contains tiles m some.0 some.1)))
]

-- an element of a list in which another one is set
set_apart : (xs : List Bool) (i k : ℕ) (x y : Bool) → i < length xs → ¬ (i ≡ k) → slice_get xs i ≡ Some y → slice_get (set xs k x) i ≡ Some y
set_apart xs i k x y within other there =
    let found = slice_get-some (set xs k x) i (omega (arith, within, length-set xs k x)) in
    let same : found.0 ≡ y = same_Some found.0 y (sym (slice_get-apart xs k i x found.0 other found.1) ∙ there) in
    found.1 ∙ ap (λ b. Some b) same

-- one place more
module _ (area : BoxArea) (stood : List Bool) (number : ℕ) (p : Place) (within : number < length stood) (there : site_at area number ≡ p.site) (inside : InBox area p.site) where
  abbrev more : StoodTable
  more = record { area = area; stood = set stood number true }

  pub tells_more : (tiles : List Place) → length stood ≡ cell_count area → TellsSites (record { area = area; stood = stood }) tiles → TellsSites more (tiles ++ p ∷ [])
  tells_more tiles count told = record {
    inside = All-push (λ q. InBox area q.site) tiles p told.inside inside;
    each = λ i below. elim (cases_eq i number) [
      | inl same ↦
          let here : site_at area i ≡ p.site = ap (site_at area) same ∙ there in
          ap (slice_get (set stood number true)) same
          ∙ slice_get-set stood number true within
          ∙ ap (λ b. Some b) (sym (ap (λ m. is_some (tile_at (tiles ++ p ∷ []) m)) here ∙ stands_last tiles p))
      | inr other ↦
          let apart : ¬ (p.site ≡ site_at area i) = λ same. other (site_at-injective area i number (sym same ∙ sym there)) in
          set_apart stood i number true (is_some (tile_at tiles (site_at area i))) (omega (arith, below, count)) other (told.each i below)
          ∙ ap (λ o. Some (is_some o)) (sym (tile_at-push_other tiles p (site_at area i) apart))
    ];
  }
