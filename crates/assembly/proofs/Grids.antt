-- The tiles of a grid's cells.
use Rattle.std.proofs.Common.{◌≡◌, ◌≢◌, ◌<◌, ◌≤◌, ◌+◌, ◌-◌, ◌==◌, ℕ, false, cond, not, List, [], ◌∷◌, ◌++◌, length, get_or, set, count_by, Some, None, All, sym, ◌∙◌, ap, subst, inl, inr, arith}
use Rattle.std.proofs.lemmas.Bool.{cases_Bool}
use Rattle.std.proofs.lemmas.Bool.Decides.{nat_tests}
use Rattle.std.proofs.lemmas.List.{get_or-set_same, length-set}
use Rattle.std.proofs.lemmas.List.Sums.{sum_by-set, count_by-le-length}
use Rattle.std.proofs.lemmas.Option.{none-some}
use Rattle.atam.specs.declared.site.Site.{Site}
use Rattle.atam.specs.declared.place.TypeId.{TypeId}
use Rattle.atam.specs.declared.place.Place.{Place}
use Rattle.atam.specs.declared.area.BoxArea.{BoxArea}
use Rattle.atam.specs.Sites.{InBox}
use Rattle.atam.specs.Placements.{HasDistinctSites, SamePlacements, tile_at}
use Rattle.assembly.specs.Cells.{site_at}
use Rattle.assembly.specs.Grids.{places_of}
use Rattle.assembly.specs.Inner.GridCells.{IsGrid, is_tile, type_in}
use Rattle.assembly.proofs.Cells.{site_at-injective, site_at-inside, cell_count-most}
use Rattle.assembly.specs.Inner.Filling.{filled_cell}
use Rattle.atam.proofs.Tiles.{SameTiles, SamePlacements-put, SamePlacements-merge}
use Rattle.assembly.proofs.Contents.{type_in-tile, length-places, All-places, places-distinct, tile_at-cell, tile_at-outside, tile_at-set_other, tile_at-merged}

module _ (area : BoxArea) (cells : List ℕ) (count : ℕ) (grid : IsGrid area cells count) where
  pub grid_inside : All (λ p. InBox area p.site) (places_of (site_at area) 0 cells)
  grid_inside = All-places (site_at area) (InBox area) 0 cells (λ j above below. site_at-inside area j grid.box_limits (omega (arith, below, grid.sites)))

  pub grid_distinct : HasDistinctSites (places_of (site_at area) 0 cells)
  grid_distinct = places-distinct (site_at area) (site_at-injective area) 0 cells

  pub grid_at : (i : ℕ) (m : Site) → site_at area i ≡ m → i < length cells → tile_at (places_of (site_at area) 0 cells) m ≡ type_in (get_or cells i 0)
  grid_at i m here below =
      let At : Site → Type 0 = λ n. tile_at (places_of (site_at area) 0 cells) n ≡ type_in (get_or cells i 0) in
      subst At here (tile_at-cell (site_at area) (site_at-injective area) 0 i i cells (omega arith) below)

  pub grid_outside : (m : Site) → ¬ InBox area m → tile_at (places_of (site_at area) 0 cells) m ≡ None
  grid_outside m outside =
      tile_at-outside (site_at area) 0 cells m (λ j above below here.
      outside (subst (InBox area) here (site_at-inside area j grid.box_limits (omega (arith, below, grid.sites)))))

  -- there are fewer tiles than the machine's numbers
  pub count-small : count ≤ 1048576
  count-small = omega (arith, count_by-le-length is_tile cells, cell_count-most area grid.box_limits, grid.sites, grid.counted)

  -- an empty site has the cell 0
  pub empty_cell : (i : ℕ) (m : Site) → site_at area i ≡ m → i < length cells → tile_at (places_of (site_at area) 0 cells) m ≡ None → get_or cells i 0 ≡ 0
  empty_cell i m here below empty =
      let x = get_or cells i 0 in
      let none : type_in x ≡ None = sym (grid_at i m here below) ∙ empty in
      elim (cases_Bool (x == 0)) [
        | inl zero ↦ grind (arith, nat_tests, zero)
        | inr tile ↦ absurd (none-some (record { 0 = x - 1 }) (sym none ∙ rw tile (λ k. Some (record { 0 = x - 1 }))))
      ]

-- the cell of a tile
pub not_gap : (cell : ℕ) → cell ≢ 0 → (cell == 0) ≡ false
not_gap cell tile = grind (arith, nat_tests, tile)

tile_cell : (t : ℕ) → (t + 1 == 0) ≡ false
tile_cell t = not_gap (t + 1) (λ zero. let never : ⊥ = omega (arith, zero) in never)

type_in-cell : (tile : TypeId) → type_in (tile.0 + 1) ≡ Some tile
type_in-cell tile =
    let same : tile.0 + 1 - 1 ≡ tile.0 = omega arith in
    type_in-tile (tile.0 + 1) (tile_cell tile.0) ∙ (λ k. Some (record { 0 = same k }))

-- a tile is put at an empty site
module _ (area : BoxArea) (cells : List ℕ) (count : ℕ) (grid : IsGrid area cells count) (old : List Place) (view : places_of (site_at area) 0 cells ≡ old)
    (i : ℕ) (place : Place) (here : site_at area i ≡ place.site) (below : i < length cells) (empty : tile_at old place.site ≡ None) where
  gap : get_or cells i 0 ≡ 0
  gap = empty_cell area cells count grid i place.site here below (ap (λ l. tile_at l place.site) view ∙ empty)

  put_counted : count_by is_tile (set cells i (place.tile.0 + 1)) ≡ count_by is_tile cells + 1
  put_counted =
      let f : ℕ → ℕ = λ w. cond (is_tile w) 1 0 in
      let step = sum_by-set f cells i (place.tile.0 + 1) 0 below in
      let none : f (get_or cells i 0) ≡ 0 = ap f gap in
      let one : f (place.tile.0 + 1) ≡ 1 = ap (λ b. cond (not b) 1 0) (tile_cell place.tile.0) in
      omega (arith, step, none, one)

  pub put_grid : IsGrid area (set cells i (place.tile.0 + 1)) (count + 1)
  put_grid = record {
    box_limits = grid.box_limits;
    sites = length-set cells i (place.tile.0 + 1) ∙ grid.sites;
    counted = ap (λ n. n + 1) grid.counted ∙ sym put_counted;
  }

  pub put_here : tile_at (places_of (site_at area) 0 (set cells i (place.tile.0 + 1))) place.site ≡ Some place.tile
  put_here =
      let within : i < length (set cells i (place.tile.0 + 1)) = rw length-set below in
      grid_at area (set cells i (place.tile.0 + 1)) (count + 1) put_grid i place.site here within
      ∙ ap type_in (get_or-set_same cells i (place.tile.0 + 1) 0 below)
      ∙ type_in-cell place.tile

  pub put_others : (m : Site) → m ≢ place.site → tile_at (places_of (site_at area) 0 (set cells i (place.tile.0 + 1))) m ≡ tile_at old m
  put_others m other =
      tile_at-set_other (site_at area) 0 i i (place.tile.0 + 1) cells m (omega arith) (λ one. other (sym one ∙ here))
      ∙ ap (λ l. tile_at l m) view

  pub put_placements : SamePlacements (old ++ place ∷ []) (places_of (site_at area) 0 (set cells i (place.tile.0 + 1)))
  put_placements =
      SamePlacements-put old (places_of (site_at area) 0 (set cells i (place.tile.0 + 1))) place
      (subst HasDistinctSites view (grid_distinct area cells count grid))
      (grid_distinct area (set cells i (place.tile.0 + 1)) (count + 1) put_grid)
      empty put_here put_others

  pub put_count : length (places_of (site_at area) 0 (set cells i (place.tile.0 + 1))) ≡ length old + 1
  put_count =
      length-places (site_at area) 0 (set cells i (place.tile.0 + 1)) ∙ put_counted
      ∙ ap (λ n. n + 1) (sym (length-places (site_at area) 0 cells) ∙ ap length view)

-- two grids over one box, and cells that fill the gaps of the one by those of the other
module _ (area : BoxArea) (a b new : List ℕ) (old other : List Place) (view_a : places_of (site_at area) 0 a ≡ old) (view_b : places_of (site_at area) 0 b ≡ other)
    (length_a : length a ≡ length new) (length_b : length b ≡ length new) (filled : (k : ℕ) → k < length a → get_or new k 0 ≡ filled_cell a b k) where
  pub merge_tiles : SameTiles (places_of (site_at area) 0 new) (old ++ other)
  merge_tiles =
      let Same : List Place → List Place → Type 0 = λ l r. SameTiles (places_of (site_at area) 0 new) (l ++ r) in
      let merged : Same (places_of (site_at area) 0 a) (places_of (site_at area) 0 b) =
      tile_at-merged (site_at area) (site_at-injective area) a b new length_a length_b (λ k below. filled k (omega (arith, below, length_a)))
      in
      subst (λ r. Same old r) view_b (subst (λ l. Same l (places_of (site_at area) 0 b)) view_a merged)

  pub merge_placements : ((m : Site) (t u : TypeId) → tile_at old m ≡ Some t → tile_at other m ≡ Some u → t ≡ u) →
      SamePlacements (old ++ other) (places_of (site_at area) 0 new)
  merge_placements agree =
      let distinct : (cells : List ℕ) → HasDistinctSites (places_of (site_at area) 0 cells) = λ cells. places-distinct (site_at area) (site_at-injective area) 0 cells in
      SamePlacements-merge old other (places_of (site_at area) 0 new) (subst HasDistinctSites view_a (distinct a)) (subst HasDistinctSites view_b (distinct b)) (distinct new) agree merge_tiles
