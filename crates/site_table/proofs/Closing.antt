-- What the words of a closed table spell.
use Rattle.std.proofs.Common.{◌≡◌, ◌≢◌, ◌<◌, ◌≤◌, ◌+◌, ◌-◌, ◌%◌, ◌==◌, ℕ, zero, suc, false, List, [], ◌∷◌, ◌++◌, length, map, take, get_or, Some, None, All, cond, append_assoc, append-nil, slice_index, count_by, option_map, ne_eqb, refl, sym, ◌∙◌, ap, subst, inl, inr, arith}
use Rattle.std.proofs.lemmas.List.{take_more, get_or-map, length-map, length-take-le}
use Rattle.std.proofs.lemmas.List.Sums.{sum_by-append, count_by-le-length}
use Rattle.std.proofs.lemmas.List.Elements.{All-contains, All-map, Contains-get_or, Contains-append_cases}
use mathlib.Core.List.{map-append}
use mathlib.Core.Option.{some, some-injective, some-ne-none}
use lib.ListN.{get_elem?}
use Rattle.atomic_table.specs.Table.{Final, Seen}
use Rattle.atam.specs.declared.site.Site.{Site}
use Rattle.atam.specs.declared.place.Place.{Place}
use Rattle.atam.specs.declared.area.BoxArea.{BoxArea}
use Rattle.atam.specs.Sites.{InBox}
use Rattle.atam.specs.TileSystem.{TileSystem, IsValid, IsType}
use Rattle.atam.specs.Placements.{tile_at, SamePlacements, HasDistinctSites}
use Rattle.atam.specs.Growth.{IsClosedInBox}
use Rattle.atam.proofs.Lists.{some_or_none}
use Rattle.atam.proofs.Placements.{tile_at-Contains, tile_at-append, tile_at-append_past}
use Rattle.assembly.specs.Cells.{cell_count, site_at}
use Rattle.assembly.specs.Grids.{place_of, places_of}
use Rattle.assembly.proofs.Cells.{index_of, site_at-injective, site_at-inside}
use Rattle.assembly.proofs.Contents.{type_in-tile, tile_at-cell, tile_at-outside, All-places, places-distinct}
use Rattle.assembly.specs.Inner.GridCells as grids
use Rattle.atam.proofs.Tiles.{SamePlacements-from_tiles, SamePlacements-trans, SameTiles-put}
use Rattle.grow_core.specs.declared.placed_tile.PlacedTile.{PlacedTile}
use Rattle.grow_core.specs.Core.{ScoutState, places, IsHistory, ScoutInvariant}
use Rattle.grow_core.proofs.Stepped.{quiet, tiles-stay}
use Rattle.grow_core.proofs.Lists.{map-part}
use Rattle.grow_core.proofs.Own.{mine_tile}
use Rattle.grow_core.proofs.Listed.{whole_place, owned-below}
use Rattle.site_table.specs.declared.view.SeatView.{SeatView}
use Rattle.site_table.specs.Words.{word_of, tile_on, word_at, is_by, Spells, kinds, spelled}
use Rattle.site_table.specs.Views.{scout_of, IsLive}
use Rattle.site_table.specs.Rule.{TableInvariant}
use Rattle.site_table.specs.Seats.{GrownValue, Closes}
use Rattle.site_table.specs.Laws.{IsFinal}
use Rattle.site_table.proofs.Spelled.{tile_at-places, type_in-code, get_or-any}
use Rattle.site_table.proofs.Listed.{scouts-at}
use Rattle.site_table.proofs.Moves.{type-small}

module _ (sys : TileSystem) (ws : List ℕ) (log : List PlacedTile) (valid : IsValid sys) (spells : Spells sys.area ws log) (history : IsHistory sys log) where
  kind_at : (i : ℕ) → i < length ws → get_or (kinds ws) i 0 ≡ get_or ws i 0 % 4294967296
  kind_at i l = get_or-map (λ word. word % 4294967296) ws i 0 0 l

  length_kinds : length (kinds ws) ≡ cell_count sys.area
  length_kinds = length-map ws (λ (word : ℕ). word % 4294967296) ∙ spells.count

  -- the low part of the word of a tile
  low_word : (m : Site) (t : PlacedTile) → tile_on log m ≡ Some t → (word_at log m % 4294967296 ≡ t.place.tile.0 + 1) × (t.place.tile.0 < 16384)
  low_word m t found =
      let stands : tile_at (places log) m ≡ Some t.place.tile = tile_at-places log m ∙ ap (option_map (λ (x : PlacedTile). x.place.tile)) found in
      let listed = tile_at-Contains (places log) m t.place.tile stands in
      let kind : IsType sys t.place.tile = All-contains (λ (p : Place). IsType sys p.tile) (places log) (record { site = m; tile = t.place.tile }) history.legal.types listed in
      let small = type-small sys t.place.tile valid kind in
      let c = type_in-code t.place.tile t.placer (omega (arith, small)) in
      let word : word_at log m ≡ word_of t = rw found refl in
      (ap (λ w. w % 4294967296) word ∙ c.1, small)

  -- at a site of the box
  at_both : (i : ℕ) → i < cell_count sys.area → tile_at (spelled sys.area ws) (site_at sys.area i) ≡ tile_at (places log) (site_at sys.area i)
  at_both i near =
      let m : Site = site_at sys.area i in
      let read : get_or ws i 0 ≡ word_at log m = spells.each i (subst (λ n. i < n) (sym spells.count) near) in
      let cell : tile_at (spelled sys.area ws) m ≡ grids.type_in (get_or (kinds ws) i 0) =
      tile_at-cell (site_at sys.area) (site_at-injective sys.area) 0 i i (kinds ws) (omega arith) (subst (λ n. i < n) (sym length_kinds) near) in
      let low : get_or (kinds ws) i 0 ≡ word_at log m % 4294967296 = kind_at i (subst (λ n. i < n) (sym spells.count) near) ∙ ap (λ w. w % 4294967296) read in
      elim (some_or_none (tile_on log m)) [
        | inl none ↦
            let gap : word_at log m % 4294967296 ≡ 0 = rw none refl in
            let bare : tile_at (places log) m ≡ None = tile_at-places log m ∙ ap (option_map (λ (x : PlacedTile). x.place.tile)) none in
            cell ∙ (ap grids.type_in (low ∙ gap) ∙ sym bare)
        | inr found ↦
            let t = found.0 in
            let is = low_word m t found.1 in
            let stands : tile_at (places log) m ≡ Some t.place.tile = tile_at-places log m ∙ ap (option_map (λ (x : PlacedTile). x.place.tile)) found.1 in
            let some_word : (t.place.tile.0 + 1 == 0) ≡ false = ne_eqb (t.place.tile.0 + 1) 0 (λ e. omega (arith, e)) in
            let back : t.place.tile.0 + 1 - 1 ≡ t.place.tile.0 = omega arith in
            cell ∙ (ap grids.type_in (low ∙ is.0) ∙ (type_in-tile (t.place.tile.0 + 1) some_word ∙ ((λ k. Some (record { 0 = back k })) ∙ sym stands)))
      ]

  inside_at : (m : Site) → InBox sys.area m → tile_at (spelled sys.area ws) m ≡ tile_at (places log) m
  inside_at m inside =
      let i = index_of sys.area m inside in
      subst (λ (n : Site). tile_at (spelled sys.area ws) n ≡ tile_at (places log) n) i.2 (at_both i.0 i.1)

  -- and everywhere
  pub spelled-tiles : (m : Site) → tile_at (spelled sys.area ws) m ≡ tile_at (places log) m
  spelled-tiles m = elim (some_or_none (tile_at (places log) m)) [
    | inr found ↦ inside_at m (All-contains (λ (q : Place). InBox sys.area q.site) (places log) (record { site = m; tile = found.0 })
        (All-map (λ (q : Place). InBox sys.area q.site) (λ (t : PlacedTile). t.place) log history.inside) (tile_at-Contains (places log) m found.0 found.1))
    | inl none ↦ elim (some_or_none (tile_at (spelled sys.area ws) m)) [
      | inl bare ↦ bare ∙ sym none
      | inr found ↦ inside_at m (All-contains (λ (q : Place). InBox sys.area q.site) (spelled sys.area ws) (record { site = m; tile = found.0 })
          (All-places (site_at sys.area) (InBox sys.area) 0 (kinds ws) (λ j above below. site_at-inside sys.area j valid.box (let e = length_kinds in omega (arith, below, e))))
          (tile_at-Contains (spelled sys.area ws) m found.0 found.1))
    ]
  ]

  pub spelled-same : SamePlacements (places log) (spelled sys.area ws)
  spelled-same = SamePlacements-from_tiles (places log) (spelled sys.area ws) history.distinct (places-distinct (site_at sys.area) (site_at-injective sys.area) 0 (kinds ws))
      (λ m. sym (spelled-tiles m))

  -- a word that is not 0 has a type of the system
  word_low : (i : ℕ) → i < length ws → (get_or ws i 0 ≢ 0 → 0 < get_or ws i 0 % 4294967296) × (get_or ws i 0 % 4294967296 ≤ 16384)
  word_low i near =
      let m : Site = site_at sys.area i in
      let read : get_or ws i 0 ≡ word_at log m = spells.each i near in
      elim (some_or_none (tile_on log m)) [
        | inl none ↦ let gap : get_or ws i 0 ≡ 0 = read ∙ rw none refl in ((λ e. absurd (e gap)), omega (arith, gap))
        | inr found ↦ let is = low_word m found.0 found.1 in
            let low : get_or ws i 0 % 4294967296 ≡ found.0.place.tile.0 + 1 = ap (λ w. w % 4294967296) read ∙ is.0 in
            let small = is.1 in
            ((λ _. omega (arith, low)), omega (arith, low, small))
      ]

  pub coded : All (λ w. w ≢ 0 → 0 < w % 4294967296) ws
  coded k d l = subst (λ w. w ≢ 0 → 0 < w % 4294967296) (sym (get_or-any ws k d 0 l)) (word_low k l).0

  pub low_small : All (λ w. w % 4294967296 ≤ 16384) ws
  low_small k d l = subst (λ w. w % 4294967296 ≤ 16384) (sym (get_or-any ws k d 0 l)) (word_low k l).1

-- the places of words and one word more
places-more : (at : ℕ → Site) (k n y : ℕ) (xs : List ℕ) → n ≡ k + length xs → places_of at k (xs ++ y ∷ []) ≡ places_of at k xs ++ place_of (at n) y
places-more at k n y [] e = let same : n ≡ k = omega (arith, e) in append-nil (place_of (at k) y) ∙ ap (λ j. place_of (at j) y) (sym same)
places-more at k n y (x ∷ xs) e =
    ap (λ l. place_of (at k) x ++ l) (places-more at (suc k) n y xs (omega (arith, e))) ∙ sym (append_assoc (place_of (at k) x) (places_of at (suc k) xs) (place_of (at n) y))

pub spelled-more : (area : BoxArea) (ws : List ℕ) (i : ℕ) → i < length ws → spelled area (take (i + 1) ws) ≡ spelled area (take i ws) ++ place_of (site_at area i) (get_or ws i 0 % 4294967296)
spelled-more area ws i l =
    let low : ℕ → ℕ = λ word. word % 4294967296 in
    ap (λ xs. places_of (site_at area) 0 (map low xs)) (take_more ws i 0 l)
    ∙ (ap (places_of (site_at area) 0) (map-append low (take i ws) (get_or ws i 0 ∷ []))
    ∙ places-more (site_at area) 0 i (low (get_or ws i 0)) (map low (take i ws))
    (let a = length-map (take i ws) low in let b = length-take-le i ws (omega (arith, l)) in omega (arith, a, b)))

pub counted-more : (n : ℕ) (xs : List ℕ) (i : ℕ) → i < length xs → count_by (is_by n) (take (i + 1) xs) ≡ count_by (is_by n) (take i xs) + cond (is_by n (get_or xs i 0)) 1 0
counted-more n xs i l = ap (count_by (is_by n)) (take_more xs i 0 l)
    ∙ (sum_by-append (λ (x : ℕ). cond (is_by n x) 1 0) (take i xs) (get_or xs i 0 ∷ []) ∙ omega arith)

pub counted-few : (n : ℕ) (xs : List ℕ) (i : ℕ) → i < length xs → count_by (is_by n) (take i xs) ≤ i
counted-few n xs i l = let a = count_by-le-length (is_by n) (take i xs) in let b = length-take-le i xs (omega (arith, l)) in omega (arith, a, b)

-- the next word's site is not among those of the words before
pub next-empty : (area : BoxArea) (ws : List ℕ) (i : ℕ) → i < length ws → tile_at (spelled area (take i ws)) (site_at area i) ≡ None
next-empty area ws i l = tile_at-outside (site_at area) 0 (kinds (take i ws)) (site_at area i)
    (λ j above below e. let same = site_at-injective area j i e in
    let a = length-map (take i ws) (λ (word : ℕ). word % 4294967296) in let b = length-take-le i ws (omega (arith, l)) in omega (arith, same, below, a, b))

-- tiles behind two lists that are alike
pub append-same : (a b c : List Place) → ((m : Site) → tile_at a m ≡ tile_at b m) → (m : Site) → tile_at (a ++ c) m ≡ tile_at (b ++ c) m
append-same a b c same m = elim (some_or_none (tile_at a m)) [
  | inl empty ↦ tile_at-append_past a c m empty ∙ sym (tile_at-append_past b c m (sym (same m) ∙ empty))
  | inr found ↦ tile_at-append a c m found.0 found.1 ∙ sym (tile_at-append b c m found.0 (sym (same m) ∙ found.1))
]

-- the tile of a word is put into a grid
pub took : (old new : List Place) (m : Site) (low : ℕ) (p : Place) → 0 < low → p.site ≡ m → p.tile.0 ≡ low - 1 → tile_at old m ≡ None → tile_at new p.site ≡ Some p.tile →
    ((n : Site) → n ≢ p.site → tile_at new n ≡ tile_at old n) → (n : Site) → tile_at new n ≡ tile_at (old ++ place_of m low) n
took old new m low p some_low site tile empty here others n =
    let is : p ≡ record { site = m; tile = record { 0 = low - 1 } } = λ k. record { site = site k; tile = record { 0 = tile k } } in
    let one : place_of m low ≡ p ∷ [] = rw (ne_eqb low 0 (λ e. omega (arith, e, some_low))) (ap (λ q. q ∷ []) (sym is)) in
    sym (ap (λ l. tile_at (old ++ l) n) one ∙ SameTiles-put old new p (subst (λ s. tile_at old s ≡ None) (sym site) empty) here others n)

-- an element as the table reads it, and as std does
pub from_elem : (l : List ℕ) (i a : ℕ) → get_elem? l i ≡ some a → get_or l i 0 ≡ a
from_elem [] i a e = absurd (some-ne-none a (sym e))
from_elem (x ∷ l) zero a e = some-injective x a e
from_elem (x ∷ l) (suc i) a e = from_elem l i a e

-- quiet is final
pub finally : (sys : TileSystem) (v : ScoutState) → IsValid sys → IsClosedInBox sys v.seen → IsFinal sys v
finally sys v valid closed = record {
  words = λ s j r here.
      let all = quiet sys r.tiles v r.growth.history (r.growth.each j v here) closed in
      SamePlacements-trans v.seen (places r.tiles) (spelled sys.area s.words) all (spelled-same sys s.words r.tiles r.valid r.spells r.growth.history);
  events = λ s t event reply name holds here step. tiles-stay sys s t event reply name v valid holds here closed step;
}

module _ (sys : TileSystem) (id : ℕ) (v : SeatView) (live : IsLive v) (ws : List ℕ) (xs : List (Unit {0})) (final : Final (Seen (TableInvariant sys) id v) ws xs) where
  state : TableInvariant sys final.0
  state = final.1.0

  spells_ws : Spells sys.area ws state.tiles
  spells_ws = subst (λ l. Spells sys.area l state.tiles) final.2 state.spells

  pub final-coded : All (λ w. w ≢ 0 → 0 < w % 4294967296) ws
  final-coded = coded sys ws state.tiles state.valid spells_ws state.growth.history

  pub final-small : All (λ w. w % 4294967296 ≤ 16384) ws
  final-small = low_small sys ws state.tiles state.valid spells_ws state.growth.history

  pub final-count : length ws ≡ cell_count sys.area
  final-count = spells_ws.count

  known : ScoutInvariant sys state.tiles (scout_of v)
  known = state.growth.each id (scout_of v) (scouts-at final.0.views id v final.1.1 live)

  pub final-closes : (out : GrownValue) → out.grid.area ≡ sys.area → HasDistinctSites out.grid.tiles → SamePlacements (spelled sys.area ws) out.grid.tiles → length out.won ≡ 64 →
      ((n : ℕ) → n < 64 → slice_index out.won n ≡ count_by (is_by n) ws) → Closes sys (scout_of v) out
  final-closes out area distinct grid numbers won =
      let same = SamePlacements-trans (places state.tiles) (spelled sys.area ws) out.grid.tiles (spelled-same sys ws state.tiles state.valid spells_ws state.growth.history) grid in
      record {
        area = area;
        distinct = distinct;
        inside = λ k d l. let q : Place = get_or out.grid.tiles k d in
            All-contains (λ (p : Place). InBox sys.area p.site) (places state.tiles) q
            (All-map (λ (p : Place). InBox sys.area p.site) (λ (t : PlacedTile). t.place) state.tiles state.growth.history.inside) (same.whole q (Contains-get_or out.grid.tiles k d l));
        seen = λ p c. same.part p (known.part p c);
        producible = record { sequence = places state.tiles; legal = state.growth.history.legal; same = same };
        tiles = state.tiles;
        history = state.growth.history;
        same = same;
        scout = known;
        numbers = numbers;
        counts = λ n l. won n l ∙ spells_ws.counted n;
        own_counts = λ n own. won n (owned-below v.owned n known.numbers own) ∙ (spells_ws.counted n ∙ ap length (known.in_order n own));
        whole = λ all. record {
          part = λ p c. elim (Contains-append_cases sys.seeds (places v.mine) p c) [
            | inl seed ↦ same.part p (known.part p (known.seeds p seed))
            | inr own ↦ same.part p (map-part (λ (t : PlacedTile). t.place) v.mine state.tiles (λ t d. mine_tile sys state.tiles (scout_of v) known t d) p own)
          ];
          whole = λ p c. whole_place sys state.tiles (scout_of v) state.growth.history known all p (same.whole p c);
        };
      }
