-- The tiles beside a site of a grid's box, by the numbers of their sites.
use Rattle.std.proofs.Common.{◌≡◌, ◌≢◌, ◌<◌, ◌≤◌, ◌+◌, ◌-◌, ℕ, ℤ, pos, negsuc, ◌≤ℤ◌, w32, of_z, List, Option, None, sym, ◌∙◌, ap, subst, arith}
use Rattle.std.proofs.lemmas.Int.{ints}
use Rattle.atam.specs.declared.site.Side.TheVariants.{North, East, South, West}
use Rattle.atam.specs.declared.site.Site.{Site}
use Rattle.atam.specs.declared.place.TypeId.{TypeId}
use Rattle.atam.specs.declared.area.BoxArea.{BoxArea}
use Rattle.atam.specs.Sites.{InBox, neighbor, width_of}
use Rattle.atam.specs.Placements.{tile_at}
use Rattle.assembly.specs.Cells.{cell_count, site_at}
use Rattle.assembly.specs.Grids.{TileGrid, places_of}
use Rattle.assembly.specs.Inner.GridCells.{IsGrid}
use Rattle.assembly.proofs.Cells.{north_cell, east_cell, south_cell, west_cell, row_left, one_left}
use Rattle.assembly.proofs.Grids.{grid_outside}

-- coordinates within the limits are one where their words are
same_word : (a b low high : ℤ) → low ≤ℤ a → a ≤ℤ high → low ≤ℤ b → b ≤ℤ high → negsuc 999999 ≤ℤ low → high ≤ℤ pos 1000000 → of_z w32 a ≡ of_z w32 b → a ≡ b
same_word a b low high a_low a_high b_low b_high floor top same = omega (arith, ints, same)

module _ (area : BoxArea) (cells : List ℕ) (count : ℕ) (grid : IsGrid area cells count) (g : TileGrid) (view : record { area = area; tiles = places_of (site_at area) 0 cells } ≡ g)
    (m : Site) (inside_g : InBox g.area m) where
  same_area : area ≡ g.area
  same_area = ap (λ v. v.area) view

  inside : InBox area m
  inside = subst (λ a. InBox a m) (sym same_area) inside_g

  empty_outside : (n : Site) → ¬ InBox area n → None ≡ tile_at g.tiles n
  empty_outside n outside = sym (sym (ap (λ v. tile_at v.tiles n) view) ∙ grid_outside area cells count grid n outside)

  -- at an edge of the box there is none
  pub north_edge : of_z w32 m.y ≡ of_z w32 area.y1 → None ≡ tile_at g.tiles (neighbor m North)
  north_edge same =
      let corners = grid.box_limits.corners in
      let edge : m.y ≡ area.y1 = same_word m.y area.y1 area.y0 area.y1 inside.bottom inside.top corners.rows (omega (arith, ints)) corners.bottom corners.top same in
      empty_outside (neighbor m North) (λ up. let never : ⊥ = omega (arith, ints, up.top, edge) in never)

  pub east_edge : of_z w32 m.x ≡ of_z w32 area.x1 → None ≡ tile_at g.tiles (neighbor m East)
  east_edge same =
      let corners = grid.box_limits.corners in
      let edge : m.x ≡ area.x1 = same_word m.x area.x1 area.x0 area.x1 inside.left inside.right corners.columns (omega (arith, ints)) corners.left corners.right same in
      empty_outside (neighbor m East) (λ to. let never : ⊥ = omega (arith, ints, to.right, edge) in never)

  pub south_edge : of_z w32 m.y ≡ of_z w32 area.y0 → None ≡ tile_at g.tiles (neighbor m South)
  south_edge same =
      let corners = grid.box_limits.corners in
      let edge : m.y ≡ area.y0 = same_word m.y area.y0 area.y0 area.y1 inside.bottom inside.top (omega (arith, ints)) corners.rows corners.bottom corners.top same in
      empty_outside (neighbor m South) (λ down. let never : ⊥ = omega (arith, ints, down.bottom, edge) in never)

  pub west_edge : of_z w32 m.x ≡ of_z w32 area.x0 → None ≡ tile_at g.tiles (neighbor m West)
  west_edge same =
      let corners = grid.box_limits.corners in
      let edge : m.x ≡ area.x0 = same_word m.x area.x0 area.x0 area.x1 inside.left inside.right (omega (arith, ints)) corners.columns corners.left corners.right same in
      empty_outside (neighbor m West) (λ to. let never : ⊥ = omega (arith, ints, to.left, edge) in never)

  module _ (i w : ℕ) (here_g : site_at g.area i ≡ m) (width : w ≡ width_of area) where
    here : site_at area i ≡ m
    here = ap (λ a. site_at a i) same_area ∙ here_g

    -- and elsewhere it has the number that a step leads to
    pub north_within : (of_z w32 m.y ≢ of_z w32 area.y1) → i + w < cell_count g.area
    north_within below =
        let cell = north_cell area m i inside here (λ e. below (ap (of_z w32) e)) in
        let counted : cell_count area ≡ cell_count g.area = ap cell_count same_area in
        omega (arith, width, counted, cell.1)

    pub north_told : (of_z w32 m.y ≢ of_z w32 area.y1) → (result : Option TypeId) → result ≡ tile_at g.tiles (site_at g.area (i + w)) → result ≡ tile_at g.tiles (neighbor m North)
    north_told below result told =
        let cell = north_cell area m i inside here (λ e. below (ap (of_z w32) e)) in
        told ∙ ap (λ a. tile_at g.tiles (site_at a (i + w))) (sym same_area) ∙ ap (λ n. tile_at g.tiles (site_at area (i + n))) width ∙ ap (tile_at g.tiles) cell.0

    pub east_within : (of_z w32 m.x ≢ of_z w32 area.x1) → i + 1 < cell_count g.area
    east_within left =
        let cell = east_cell area m i inside here (λ e. left (ap (of_z w32) e)) in
        let counted : cell_count area ≡ cell_count g.area = ap cell_count same_area in
        omega (arith, counted, cell.1)

    pub east_told : (of_z w32 m.x ≢ of_z w32 area.x1) → (result : Option TypeId) → result ≡ tile_at g.tiles (site_at g.area (i + 1)) → result ≡ tile_at g.tiles (neighbor m East)
    east_told left result told =
        let cell = east_cell area m i inside here (λ e. left (ap (of_z w32) e)) in
        told ∙ ap (λ a. tile_at g.tiles (site_at a (i + 1))) (sym same_area) ∙ ap (tile_at g.tiles) cell.0

    pub south_left : (of_z w32 m.y ≢ of_z w32 area.y0) → w ≤ i
    south_left above = omega (arith, width, row_left area m i inside here (λ e. above (ap (of_z w32) e)))

    pub south_told : (of_z w32 m.y ≢ of_z w32 area.y0) → (result : Option TypeId) → result ≡ tile_at g.tiles (site_at g.area (i - w)) → result ≡ tile_at g.tiles (neighbor m South)
    south_told above result told =
        let cell = south_cell area m i inside here (λ e. above (ap (of_z w32) e)) in
        told ∙ ap (λ a. tile_at g.tiles (site_at a (i - w))) (sym same_area) ∙ ap (λ n. tile_at g.tiles (site_at area (i - n))) width ∙ ap (tile_at g.tiles) cell.0

    pub west_left : (of_z w32 m.x ≢ of_z w32 area.x0) → 1 ≤ i
    west_left right = one_left area m i inside here (λ e. right (ap (of_z w32) e))

    pub west_told : (of_z w32 m.x ≢ of_z w32 area.x0) → (result : Option TypeId) → result ≡ tile_at g.tiles (site_at g.area (i - 1)) → result ≡ tile_at g.tiles (neighbor m West)
    west_told right result told =
        let cell = west_cell area m i inside here (λ e. right (ap (of_z w32) e)) in
        told ∙ ap (λ a. tile_at g.tiles (site_at a (i - 1))) (sym same_area) ∙ ap (tile_at g.tiles) cell.0
