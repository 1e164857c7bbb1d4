-- The cells of a row.
use Rattle.std.proofs.Common.{◌≡◌, ◌≢◌, ◌==◌, ◌<◌, ◌+◌, ◌-◌, ◌*◌, ◌∙◌, ℕ, List, bit_or, drop, get_or, take, ap, refl, sym, subst, inl, inr, arith}
use mir.Val.{bool_byte}
use Rattle.std.proofs.lemmas.Int.{ints}
use Rattle.std.proofs.lemmas.List.{get_or-drop, get_or-take}
use Rattle.std.proofs.lemmas.Bool.{cases_lt}
use Rattle.std.proofs.lemmas.Nat.{le_or_l, le_or_r}
use Rattle.atam.specs.declared.area.BoxArea.{BoxArea}
use Rattle.atam.specs.Sites.{InBox, IsBox, height_of, site_in, width_of}
use Rattle.atam.specs.Placements.{tile_at}
use Rattle.assembly.specs.Cells.{site_at}
use Rattle.assembly.specs.Grids.{places_of}
use Rattle.assembly.specs.Inner.GridCells.{IsGrid, type_in}
use Rattle.assembly.proofs.Cells.{at_cell}
use Rattle.assembly.proofs.Grids.{grid_at, not_gap}

-- bits or others are none exactly where both are none
pub or_none : (a b : ℕ) → bit_or a b ≡ 0 → (a ≡ 0) × (b ≡ 0)
or_none a b none =
    let left = le_or_l a b in
    let right = le_or_r a b in
    (omega (arith, none, left), omega (arith, none, right))

pub or_both : (a b : ℕ) → a ≡ 0 → b ≡ 0 → bit_or a b ≡ 0
or_both a b left right = rw (left, right) refl

-- the bit of a gap
pub gap_bit : (cell : ℕ) → bool_byte (cell == 0) ≡ 0 → cell ≢ 0
gap_bit cell none gap =
    let one : bool_byte (cell == 0) ≡ 1 = rw gap refl in
    omega (arith, none, one)

pub tile_bit : (cell : ℕ) → cell ≢ 0 → bool_byte (cell == 0) ≡ 0
tile_bit cell tile = ap bool_byte (not_gap cell tile)

-- a fact of the first numbers and of the next one
pub holds_further : (P : ℕ → Type 0) (n : ℕ) → ((k : ℕ) → k < n → P k) → P n → (k : ℕ) → k < n + 1 → P k
holds_further P n before last k below = elim (cases_lt k n) [
  | inl earlier ↦ before k earlier
  | inr past ↦
      let same : n ≡ k = omega (arith, below, past) in
      subst P same last
]

-- a site by its column and row is in the box
pub site_in-inside : (area : BoxArea) (column row : ℕ) → IsBox area → column < width_of area → row < height_of area → InBox area (site_in area column row)
site_in-inside area column row limits narrow low =
    let columns = limits.corners.columns in
    let rows = limits.corners.rows in
    record {
      left = omega (arith, ints);
      right = omega (arith, ints, narrow, columns);
      bottom = omega (arith, ints);
      top = omega (arith, ints, low, rows);
    }

-- the cells of a row tell its tiles
pub row_cell : (area : BoxArea) (cells : List ℕ) (count : ℕ) → IsGrid area cells count → (column row width : ℕ) → width ≡ width_of area → column < width_of area → row < height_of area →
    type_in (get_or (take (row * width + width - row * width) (drop (row * width) cells)) column 0) ≡ tile_at (places_of (site_at area) 0 cells) (site_in area column row)
row_cell area cells count grid column row width wide narrow low =
    let site = site_in area column row in
    let within : column < row * width + width - row * width = omega (arith, narrow, wide) in
    let at = at_cell area site row column width (site_in-inside area column row grid.box_limits narrow low) wide refl refl in
    let cell = get_or-take (row * width + width - row * width) (drop (row * width) cells) column 0 within ∙ get_or-drop (row * width) cells column 0 in
    ap type_in cell ∙ sym (grid_at area cells count grid (row * width + column) site at.0 (omega (arith, at.1, grid.sites)))
