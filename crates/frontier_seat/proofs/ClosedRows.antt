-- Rows beside whose tiles no site is to be listed.
use Rattle.std.proofs.Common.{◌≡◌, ◌≢◌, ◌<◌, ◌+◌, ◌-◌, ◌*◌, ◌∙◌, ℕ, List, None, pos, ◌+ℤ◌, ◌-ℤ◌, nat_abs, ap, sym, inl, inr, arith}
use Rattle.std.proofs.lemmas.Bool.{cases_lt}
use Rattle.std.proofs.lemmas.Int.{ints}
use Rattle.std.proofs.lemmas.Option.{none-some}
use Rattle.atam.specs.declared.area.BoxArea.{BoxArea}
use Rattle.atam.specs.declared.place.Place.{Place}
use Rattle.atam.specs.declared.site.Side.TheVariants.{North, East, South, West}
use Rattle.atam.specs.declared.site.Site.{Site}
use Rattle.atam.specs.Sites.{InBox, IsBox, neighbor, site_in, width_of}
use Rattle.atam.specs.Placements.{tile_at}
use Rattle.atam.proofs.Boxes.{same_coordinates}
use Rattle.assembly.specs.Cells.{site_at}
use Rattle.assembly.specs.Grids.{IsEmptyRow, IsFullRow, TileGrid}
use Rattle.assembly.proofs.Cells.{site_at-cell, site_at-inside}
use Rattle.number_set.specs.Numbers.{Numbers}
use Rattle.frontier_seat.specs.Inner.Listings.{IsClosedRow, ListsFrontierTo}

-- a row with no tile
pub closed_empty : (grid : TileGrid) (row : ℕ) → IsEmptyRow grid row → IsClosedRow grid row
closed_empty grid row empty column n d t narrow tile within beside bare = none-some t (sym (empty column narrow) ∙ tile)

-- a site of a full row
full_site : (grid : TileGrid) (m : Site) (row : ℕ) → InBox grid.area m → m.y ≡ (grid.area.y0 +ℤ pos row) → IsFullRow grid row → tile_at grid.tiles m ≢ None
full_site grid m row inside high full none =
    let left = inside.left in
    let right = inside.right in
    let column = nat_abs (m.x -ℤ grid.area.x0) in
    let narrow : column < width_of grid.area = omega (arith, ints, left, right) in
    let is_x : m.x ≡ (grid.area.x0 +ℤ pos column) = omega (arith, ints, left) in
    full column narrow (ap (tile_at grid.tiles) (sym (same_coordinates m (site_in grid.area column row) high is_x)) ∙ none)

-- a full row between full rows
pub closed_full : (grid : TileGrid) (row last : ℕ) → IsBox grid.area → row ≡ last + 1 → IsFullRow grid last → IsFullRow grid row → IsFullRow grid (row + 1) → IsClosedRow grid row
closed_full grid row last limits next low full high column n d t narrow tile within beside =
    let site = site_at grid.area n in
    let here = site_in grid.area column row in
    let inside = site_at-inside grid.area n limits within in
    let beside_y : (m : Site) → site ≡ m → site.y ≡ m.y = λ m at. ap (λ (s : Site). s.y) at in
    elim d as (λ s. site ≡ neighbor here s → tile_at grid.tiles site ≢ None) [
      | North ↦ λ at. let y = beside_y (neighbor here North) at in full_site grid site (row + 1) inside (omega (arith, ints, y)) high
      | East ↦ λ at. full_site grid site row inside (beside_y (neighbor here East) at) full
      | South ↦ λ at. let y = beside_y (neighbor here South) at in full_site grid site last inside (omega (arith, ints, y, next)) low
      | West ↦ λ at. full_site grid site row inside (beside_y (neighbor here West) at) full
    ] beside

-- the neighbours of one row's tiles
pub frontier_closed : (area : BoxArea) (tiles : List Place) (numbers : Numbers) (row : ℕ) → IsClosedRow (record { area = area; tiles = tiles }) row →
    ListsFrontierTo area tiles numbers (row * width_of area) → ListsFrontierTo area tiles numbers (row * width_of area + width_of area)
frontier_closed area tiles numbers row closed before k n d t below tile within beside bare = elim (cases_lt k (row * width_of area)) [
  | inl earlier ↦ before k n d t earlier tile within beside bare
  | inr past ↦
      let column = k - row * width_of area in
      let narrow : column < width_of area = omega (arith, below, past) in
      let same : row * width_of area + column ≡ k = omega (arith, past) in
      let at : site_at area k ≡ site_in area column row = ap (site_at area) (sym same) ∙ site_at-cell area row column narrow in
      absurd (closed column n d t narrow (ap (tile_at tiles) (sym at) ∙ tile) within (beside ∙ ap (λ (m : Site). neighbor m d) at) bare)
]
