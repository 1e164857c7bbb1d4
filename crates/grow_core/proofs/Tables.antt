-- The tiles by their sites.
use Rattle.std.proofs.Common.{◌≡◌, ◌≢◌, ◌<◌, ◌≤◌, ◌+◌, ℕ, List, [], ◌∷◌, ◌++◌, set, get_or, take, length, map, Some, None, refl, sym, ◌∙◌, ap, subst, inl, inr, arith, length-append}
use Rattle.std.specs.Prelude.{All}
use Rattle.std.proofs.lemmas.List.{get_or-set_same, get_or-set_other, get_or_default, length-set, length-map}
use Rattle.std.proofs.lemmas.List.Elements.{All-push, All-contains}
use Rattle.std.proofs.lemmas.Option.{none-some, same_Some, slice_get-get_or}
use mathlib.Core.List.{map-append}
use mathlib.Core.Logic.{dite}
use native.Mathlib.Decide.{ℕ_discrete}
use Rattle.atam.specs.declared.site.Site.{Site}
use Rattle.atam.specs.declared.place.TypeId.{TypeId}
use Rattle.atam.specs.declared.place.Place.{Place}
use Rattle.atam.specs.Sites.{InBox, IsBox}
use Rattle.atam.specs.Placements.{HasDistinctSites, tile_at}
use Rattle.atam.proofs.Boxes.{same_site_tells}
use Rattle.atam.proofs.Count.{count_in_box}
use Rattle.atam.proofs.Placements.{HasDistinctSites-push, tile_at-Contains, distinct-empty}
use Rattle.assembly.specs.Cells.{cell_count, site_at}
use Rattle.assembly.specs.Grids.{TileGrid}
use Rattle.assembly.proofs.Cells.{site_at-injective}
use Rattle.atam.proofs.Tiles.{SameTiles-put}
use Rattle.grow_core.specs.declared.placed_tile.PlacedTile.{PlacedTile}
use Rattle.grow_core.specs.Core.{places}
use Rattle.grow_core.specs.Steps.{tile_of}
use Rattle.grow_core.specs.Machine.{placer_at}
use Rattle.grow_core.specs.Inner.Tables.{IsTable}

-- the places of tiles that one number placed
pub places-tile_of : (n : ℕ) (ps : List Place) → places (map (λ p. tile_of p n) ps) ≡ ps
places-tile_of n [] = refl
places-tile_of n (p ∷ ps) = ap (λ l. p ∷ l) (places-tile_of n ps)

pub places-push : (tiles : List PlacedTile) (t : PlacedTile) → places (tiles ++ t ∷ []) ≡ places tiles ++ t.place ∷ []
places-push tiles t = map-append (λ (u : PlacedTile). u.place) tiles (t ∷ [])

-- where there is no tile nobody placed one
pub placer_at-none : (tiles : List PlacedTile) (m : Site) → tile_at (places tiles) m ≡ None → placer_at tiles m ≡ None
placer_at-none [] m e = refl
placer_at-none (x ∷ tiles) m e = elim (same_site_tells x.place.site m) [
  | inl t ↦ absurd (none-some x.place.tile (sym (rw t.0 at e)))
  | inr f ↦ rw f.0 (placer_at-none tiles m (rw f.0 at e))
]

pub placer_at-some : (tiles : List PlacedTile) (m : Site) (u : TypeId) → tile_at (places tiles) m ≡ Some u → (n : ℕ) × (placer_at tiles m ≡ Some n)
placer_at-some [] m u e = absurd (none-some u e)
placer_at-some (x ∷ tiles) m u e = elim (same_site_tells x.place.site m) [
  | inl t ↦ (x.placer, rw t.0 refl)
  | inr f ↦ let rest = placer_at-some tiles m u (rw f.0 at e) in (rest.0, rw f.0 rest.1)
]

placer_at-push_other : (tiles : List PlacedTile) (t : PlacedTile) (m : Site) → t.place.site ≢ m → placer_at (tiles ++ t ∷ []) m ≡ placer_at tiles m
placer_at-push_other [] t m other = elim (same_site_tells t.place.site m) [ inl one ↦ absurd (other one.1) | inr f ↦ rw f.0 refl ]
placer_at-push_other (x ∷ tiles) t m other = elim (same_site_tells x.place.site m) [
  | inl one ↦ rw one.0 refl
  | inr f ↦ rw f.0 (placer_at-push_other tiles t m other)
]

placer_at-push_here : (tiles : List PlacedTile) (t : PlacedTile) (m : Site) → placer_at tiles m ≡ None → t.place.site ≡ m → placer_at (tiles ++ t ∷ []) m ≡ Some t.placer
placer_at-push_here [] t m none here = elim (same_site_tells t.place.site m) [ inl one ↦ rw one.0 refl | inr f ↦ absurd (f.1 here) ]
placer_at-push_here (x ∷ tiles) t m none here = elim (same_site_tells x.place.site m) [
  | inl one ↦ absurd (none-some x.placer (sym (rw one.0 at none)))
  | inr f ↦ rw f.0 (placer_at-push_here tiles t m (rw f.0 at none) here)
]

module _ (tiles : List PlacedTile) (grid : TileGrid) (placers : List ℕ) (room : ℕ) (table : IsTable tiles grid placers room) where
  -- a tile stands in the box
  pub table_inside : (m : Site) (u : TypeId) → tile_at (places tiles) m ≡ Some u → InBox grid.area m
  table_inside m u there = All-contains (λ (p : Place). InBox grid.area p.site) (places tiles) (record { site = m; tile = u }) table.inside (tile_at-Contains (places tiles) m u there)

  -- the number at its index is that of its placer
  pub table_placer : (m : Site) (u : TypeId) (i n : ℕ) → tile_at (places tiles) m ≡ Some u → site_at grid.area i ≡ m → i < cell_count grid.area → n ≡ get_or placers i n → Some n ≡ placer_at tiles m
  table_placer m u i n there at_i within is =
      let placed = placer_at-some tiles m u there in
      let number = is ∙ (get_or_default placers i n 0 (rw table.cells within) ∙ table.numbers i placed.0 within (ap (placer_at tiles) at_i ∙ placed.1)) in
      ap Some number ∙ sym placed.1

  module _ (new : TileGrid) (t : PlacedTile) (i : ℕ) (inside : InBox grid.area t.place.site) (empty : tile_at (places tiles) t.place.site ≡ None) (same_area : new.area ≡ grid.area)
      (here : tile_at new.tiles t.place.site ≡ Some t.place.tile) (others : (m : Site) → m ≢ t.place.site → tile_at new.tiles m ≡ tile_at grid.tiles m)
      (at_i : site_at grid.area i ≡ t.place.site) (within : i < cell_count grid.area) where
    all_inside : All (λ (p : Place). InBox grid.area p.site) (places (tiles ++ t ∷ []))
    all_inside = subst (All (λ (p : Place). InBox grid.area p.site)) (sym (places-push tiles t)) (All-push (λ (p : Place). InBox grid.area p.site) (places tiles) t.place table.inside inside)

    all_distinct : HasDistinctSites (places (tiles ++ t ∷ []))
    all_distinct = subst HasDistinctSites (sym (places-push tiles t)) (HasDistinctSites-push (places tiles) t.place table.distinct empty)

    -- so there is room for it
    pub put_room : length tiles < room
    put_room =
        let most = count_in_box grid.area (places (tiles ++ t ∷ [])) all_distinct all_inside in
        let enough = table.enough in
        let count : length (places (tiles ++ t ∷ [])) ≡ length tiles + 1 = length-map (tiles ++ t ∷ []) (λ (u : PlacedTile). u.place) ∙ length-append tiles (t ∷ []) in
        omega (arith, most, enough, count)

    number_at : (k n : ℕ) → k < cell_count grid.area → placer_at (tiles ++ t ∷ []) (site_at grid.area k) ≡ Some n → get_or (set placers i t.placer) k 0 ≡ n
    number_at k n below placed = dite (ℕ_discrete k i)
        (λ e. let last = placer_at-push_here tiles t (site_at grid.area k) (ap (placer_at tiles) (ap (site_at grid.area) e ∙ at_i) ∙ placer_at-none tiles t.place.site empty) (sym (ap (site_at grid.area) e ∙ at_i)) in
        let is_n : t.placer ≡ n = same_Some t.placer n (sym last ∙ placed) in
        subst (λ j. get_or (set placers i t.placer) j 0 ≡ n) (sym e) (get_or-set_same placers i t.placer 0 (rw table.cells within) ∙ is_n))
        (λ f. get_or-set_other placers i k t.placer 0 f
        ∙ table.numbers k n below (sym (placer_at-push_other tiles t (site_at grid.area k) (λ e. f (site_at-injective grid.area k i (sym (at_i ∙ e))))) ∙ placed))

    pub put_table : IsTable (tiles ++ t ∷ []) new (set placers i t.placer) room
    put_table = record {
      box_limits = subst IsBox (sym same_area) table.box_limits;
      inside = subst (λ a. All (λ (p : Place). InBox a p.site) (places (tiles ++ t ∷ []))) (sym same_area) all_inside;
      distinct = all_distinct;
      same = subst (λ l. (m : Site) → tile_at l m ≡ tile_at new.tiles m) (sym (places-push tiles t))
          (SameTiles-put (places tiles) new.tiles t.place empty here (λ m other. others m other ∙ sym (table.same m)));
      cells = length-set placers i t.placer ∙ (table.cells ∙ ap cell_count (sym same_area));
      numbers = subst (λ a. (k n : ℕ) → k < cell_count a → placer_at (tiles ++ t ∷ []) (site_at a k) ≡ Some n → get_or (set placers i t.placer) k 0 ≡ n) (sym same_area) number_at;
      enough = subst (λ a. cell_count a ≤ room) (sym same_area) table.enough;
    }

-- the next seed finds its site empty
pub next_empty : (tiles : List PlacedTile) (seeds : List Place) (i n : ℕ) (e : Place) → HasDistinctSites seeds → i < length seeds → tiles ≡ map (λ p. tile_of p n) (take i seeds) →
    tile_at (places tiles) (get_or seeds i e).site ≡ None
next_empty tiles seeds i n e distinct within are =
    let same : places tiles ≡ take i seeds = ap places are ∙ places-tile_of n (take i seeds) in
    rw same (distinct-empty seeds i (get_or seeds i e) distinct (slice_get-get_or seeds i e within))
