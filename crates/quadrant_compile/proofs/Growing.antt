-- What grows from a quadrant's system.
use Rattle.std.proofs.Common.{◌≡◌, ◌<◌, ◌≤◌, ℕ, suc, pos, ◌+ℤ◌, ◌≤ℤ◌, List, Option, Some, slice_get, option_map, refl, sym, ◌∙◌, ap, subst, arith}
use Rattle.std.proofs.lemmas.Int.{ints}
use Rattle.atam.specs.declared.site.Site.{Site}
use Rattle.atam.specs.declared.place.Place.{Place}
use Rattle.atam.specs.Sites.{InBox}
use Rattle.atam.specs.Placements.{tile_at}
use Rattle.atam.specs.TileSystem.{IsValid}
use Rattle.atam.specs.Growth.{IsLegal}
use Rattle.design.specs.TileSets.{cell_site, type_id}
use Rattle.design.specs.RowDesigns.{RowDesign, GrowsRowByRow, IsBoxOfRows}
use Rattle.design.specs.Laws.{HasDeterministicGrowth}
use Rattle.design.proofs.Rows.{places_are_cells, cells_are_filled, deterministic_rows}
use Rattle.quadrant_compile.specs.declared.tile.Kind.TheVariants.{Corner}
use Rattle.quadrant_compile.specs.declared.tile.Kind.{Kind}
use Rattle.quadrant_compile.specs.Quadrants.{RuleQuadrant, IsQuadrant}
use Rattle.quadrant_compile.specs.Recurrence.{IsRecurrence}
use Rattle.quadrant_compile.specs.Recurrence.{cell_for, kind_at}
use Rattle.quadrant_compile.specs.QuadrantSystems.{tiles_of, quadrant_system}
use Rattle.quadrant_compile.specs.Inner.Listed.{area_of}
use Rattle.quadrant_compile.specs.Laws.{IsInQuadrant, IsFullGrowth}
use Rattle.quadrant_compile.proofs.Listed.{is_tile_set, kind_listed}
use Rattle.quadrant_compile.proofs.QuadrantRows.{quadrant_rows, are_grown, is_in, cell_there}
use Rattle.quadrant_compile.proofs.Recurring.{east_once, north_once}

right : (width : ℕ) → pos width +ℤ pos 1 ≡ pos (suc width)
right width = omega (arith, ints)

within : (j top : ℕ) → j ≤ top → pos j ≤ℤ pos top
within j top below = omega (arith, ints, below)

in_box : (q : RuleQuadrant) (i j : ℕ) (m : Site) → m ≡ cell_site i j → i ≤ q.width → j ≤ q.height → InBox (area_of q) m
in_box q i j m same column row = subst (InBox (area_of q)) (sym same) (record {
  left = omega (arith, ints);
  right = omega (arith, ints, column);
  bottom = omega (arith, ints);
  top = omega (arith, ints, row);
})

module _ (q : RuleQuadrant) (is_quadrant : IsQuadrant q) where
  abbrev rows : RowDesign Kind
  rows = quadrant_rows q (kind_listed q is_quadrant) is_quadrant.columns.0 is_quadrant.rows.0

  box : IsBoxOfRows rows (area_of q)
  box = record { left = refl; bottom = refl; right = right q.width }

  grown : GrowsRowByRow (tiles_of q) rows Corner
  grown = are_grown q (kind_listed q is_quadrant) is_quadrant.columns.0 is_quadrant.rows.0

  pub place_there : (s : List Place) → IsLegal (quadrant_system q) s → (i : ℕ) (p : Place) → slice_get s i ≡ Some p → IsInQuadrant q p
  place_there s legal i p there =
      let cell = places_are_cells (tiles_of q) (is_tile_set q is_quadrant) Corner (area_of q) rows grown s legal i p there in
      record { column = cell.column; row = cell.row; kind = cell.kind; site = cell.site; there = cell.wanted; tile = cell.tile }

  pub place_inside : (s : List Place) → IsLegal (quadrant_system q) s → (i : ℕ) (p : Place) → slice_get s i ≡ Some p → InBox (area_of q) p.site
  place_inside s legal i p there =
      let cell = place_there s legal i p there in
      let is = is_in q (kind_listed q is_quadrant) is_quadrant.columns.0 is_quadrant.rows.0 cell.column cell.row cell.kind cell.there in
      in_box q cell.column cell.row p.site cell.site is.column is.line

  pub filled : (tiles : List Place) → IsFullGrowth q tiles → (i j : ℕ) → i ≤ q.width → j ≤ q.height → tile_at tiles (cell_site i j) ≡ option_map (type_id (tiles_of q)) (kind_at q i j)
  filled tiles growth i j column row =
      cells_are_filled (tiles_of q) (is_tile_set q is_quadrant) Corner (area_of q) rows grown box tiles growth.producible growth.distinct growth.closed i j (omega (arith, column)) (within j q.height row)

  pub recurs : (tiles : List Place) (e n : ℕ → ℕ → Option ℕ) → IsRecurrence q e n → IsFullGrowth q tiles → (i j : ℕ) → i < q.width → j < q.height →
      tile_at tiles (cell_site (suc i) (suc j)) ≡ option_map (type_id (tiles_of q)) (cell_for q (e i (suc j)) (n (suc i) j))
  recurs tiles e n is growth i j column row =
      let east_same = east_once q e n is i j in
      let north_same = north_once q e n is j i in
      filled tiles growth (suc i) (suc j) column row
      ∙ ap (option_map (type_id (tiles_of q))) (cell_there q (kind_listed q is_quadrant) is_quadrant.columns.0 is_quadrant.rows.0 j i row column)
      ∙ sym (λ z. option_map (type_id (tiles_of q)) (cell_for q (east_same z) (north_same z)))

  pub deterministic : IsValid (quadrant_system q) → HasDeterministicGrowth (quadrant_system q)
  deterministic valid =
      deterministic_rows (tiles_of q) (is_tile_set q is_quadrant) Corner (area_of q) rows grown box valid (λ i j k wanted. within j q.height (is_in q (kind_listed q is_quadrant) is_quadrant.columns.0 is_quadrant.rows.0 i j k wanted).line)
