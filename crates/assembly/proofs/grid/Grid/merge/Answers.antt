use Rattle.std.proofs.Common.{◌≡◌, ◌<◌, ◌∙◌, ◌++◌, ℕ, List, length, get_or, take, drop, Some, ap, sym, subst, arith}
use Rattle.std.proofs.lemmas.List.{take_at}
use Rattle.atam.specs.declared.area.BoxArea.{BoxArea}
use Rattle.atam.specs.declared.site.Site.{Site}
use Rattle.atam.specs.declared.place.TypeId.{TypeId}
use Rattle.atam.specs.declared.place.Place.{Place}
use Rattle.atam.specs.Placements.{SamePlacements, tile_at}
use Rattle.assembly.specs.Cells.{cell_count, site_at}
use Rattle.assembly.specs.Grids.{places_of}
use Rattle.assembly.specs.Inner.Filling.{filled_cell}
use Rattle.assembly.proofs.Cells.{cell_count-most, site_at-injective}
use Rattle.assembly.proofs.Contents.{places-distinct}
use Rattle.atam.proofs.Tiles.{SameTiles}
use Rattle.assembly.proofs.Grids.{merge_tiles, merge_placements}
use Rattle.assembly.proofs.grid.Grid.merge.Goals as goal

pub count_tiles-self-inside-requires : goal.count_tiles-self-inside-requires
count_tiles-self-inside-requires c =
    let grid = c.self.invariant in
    omega (
      arith,
      cell_count-most c.self.inside.area grid.box_limits,
      grid.sites,
      c.fill_gaps.auto.cells,
      ap length c.as_mut_slice-cells.ensures.value,
    )

-- what the cells that were filled stand for
module _ (area other_area : BoxArea) (same_area : area ≡ other_area) (cells other_cells a b new : List ℕ) (a_is : a ≡ cells) (b_is : b ≡ other_cells)
    (sites : length cells ≡ cell_count area) (other_sites : length other_cells ≡ cell_count other_area) (as_long : length new ≡ length a)
    (filled : (k : ℕ) → k < length a → get_or new k 0 ≡ filled_cell a b k) (rest : List ℕ) (long : ℕ) (long_is : long ≡ length cells)
    (old other : List Place) (view : places_of (site_at area) 0 cells ≡ old) (other_view : places_of (site_at other_area) 0 other_cells ≡ other) where
  is_new : take long (new ++ rest) ≡ new
  is_new = take_at new rest long (omega (arith, as_long, ap length a_is, long_is))

  view_a : places_of (site_at area) 0 a ≡ old
  view_a = ap (places_of (site_at area) 0) a_is ∙ view

  view_b : places_of (site_at area) 0 b ≡ other
  view_b = ap (λ r. places_of (site_at r) 0 b) same_area ∙ ap (places_of (site_at other_area) 0) b_is ∙ other_view

  length_b : length b ≡ length new
  length_b = ap length b_is ∙ other_sites ∙ ap cell_count (sym same_area) ∙ sym sites ∙ sym (ap length a_is) ∙ sym as_long

  merged_tiles : SameTiles (places_of (site_at area) 0 (take long (new ++ rest))) (old ++ other)
  merged_tiles =
      let Same : List ℕ → Type 0 = λ l. SameTiles (places_of (site_at area) 0 l) (old ++ other) in
      subst Same (sym is_new) (merge_tiles area a b new old other view_a view_b (sym as_long) length_b filled)

  merged_placements : ((m : Site) (t u : TypeId) → tile_at old m ≡ Some t → tile_at other m ≡ Some u → t ≡ u) →
      SamePlacements (old ++ other) (places_of (site_at area) 0 (take long (new ++ rest)))
  merged_placements agree =
      let Same : List ℕ → Type 0 = λ l. SamePlacements (old ++ other) (places_of (site_at area) 0 l) in
      subst Same (sym is_new) (merge_placements area a b new old other view_a view_b (sym as_long) length_b filled agree)

pub returns-clause-tiles : goal.returns-clause-tiles
returns-clause-tiles c =
    merged_tiles c.self.inside.area c.other.inside.area (ap (λ v. v.area) c.self.view_is ∙ sym c.requires.area ∙ sym (ap (λ v. v.area) c.other.view_is))
    c.self.inside.cells.items c.other.inside.cells.items c.as_mut_slice-cells.result.now c.as_slice.result.now c.fill_gaps.new.cells
    c.as_mut_slice-cells.ensures.value c.as_slice.ensures.value c.self.invariant.sites c.other.invariant.sites c.fill_gaps.auto.cells c.fill_gaps.ensures
    (drop (length c.fill_gaps.new.cells) c.self.inside.cells.items) c.self.inside.cells.len c.self.inside.cells.ok.0
    c.args.self.now.tiles c.args.other.now.tiles (ap (λ v. v.tiles) c.self.view_is) (ap (λ v. v.tiles) c.other.view_is)

pub returns-clause-placements : goal.returns-clause-placements
returns-clause-placements c =
    merged_placements c.self.inside.area c.other.inside.area (ap (λ v. v.area) c.self.view_is ∙ sym c.requires.area ∙ sym (ap (λ v. v.area) c.other.view_is))
    c.self.inside.cells.items c.other.inside.cells.items c.as_mut_slice-cells.result.now c.as_slice.result.now c.fill_gaps.new.cells
    c.as_mut_slice-cells.ensures.value c.as_slice.ensures.value c.self.invariant.sites c.other.invariant.sites c.fill_gaps.auto.cells c.fill_gaps.ensures
    (drop (length c.fill_gaps.new.cells) c.self.inside.cells.items) c.self.inside.cells.len c.self.inside.cells.ok.0
    c.args.self.now.tiles c.args.other.now.tiles (ap (λ v. v.tiles) c.self.view_is) (ap (λ v. v.tiles) c.other.view_is) c.requires.agree

pub returns-clause-distinct : goal.returns-clause-distinct
returns-clause-distinct c =
    let cells = c.self.inside.cells in
    let new = c.fill_gaps.new.cells in
    places-distinct (site_at c.self.inside.area) (site_at-injective c.self.inside.area) 0 (take cells.len (new ++ drop (length new) cells.items))
