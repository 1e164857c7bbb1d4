-- A box's sites and their numbers.
use Rattle.std.proofs.Common.{◌≡◌, ◌<◌, ◌≤◌, ℕ, ◌+◌, ◌*◌, ◌/◌, ◌%◌, ◌-◌, ◌≢◌, suc, refl, ◌∙◌, sym, ap, inl, inr, arith, ℤ, pos, ◌+ℤ◌, ◌-ℤ◌, nat_abs}
use Rattle.std.proofs.lemmas.Int.{ints}
use Rattle.std.proofs.lemmas.Nat.{mul-add-lt, mod-mul-add, div-mul-add, div-add-mod', mul-le}
use Rattle.std.proofs.Math.Nat.{div-lt_iff_lt-mul, mul_comm}
use Rattle.atam.specs.declared.site.Site.{Site}
use Rattle.atam.specs.declared.area.BoxArea.{BoxArea}
use Rattle.atam.specs.declared.site.Side.TheVariants.{North, East, South, West}
use Rattle.atam.specs.Sites.{IsBefore, InBox, IsBox, neighbor, width_of, height_of, site_in}
use Rattle.atam.proofs.Boxes.{same_coordinates}
use Rattle.assembly.specs.Cells.{cell_count, site_at}

pub site_at-cell : (area : BoxArea) (row column : ℕ) → column < width_of area → site_at area (row * width_of area + column) ≡ site_in area column row
site_at-cell area row column inside = λ k. site_in area (mod-mul-add row (width_of area) column inside k) (div-mul-add row (width_of area) column inside k)

-- a site by its row and column
pub at_cell : (area : BoxArea) (m : Site) (row column w : ℕ) → InBox area m → w ≡ width_of area → m.y ≡ (area.y0 +ℤ pos row) → m.x ≡ (area.x0 +ℤ pos column) → (site_at area (row * w + column) ≡ m) × (row * w + column < cell_count area)
at_cell area m row column w inside width is_y is_x =
    let a = inside.left in
    let b = inside.right in
    let c = inside.bottom in
    let d = inside.top in
    let narrow : column < width_of area = omega (arith, ints) in
    let low : row < height_of area = omega (arith, ints) in
    rw width (
      site_at-cell area row column narrow ∙ sym (same_coordinates m (site_in area column row) is_y is_x),
      mul-add-lt row (width_of area) column (height_of area) low narrow,
    )

-- the number that is that of a row and a column
numbered : (area : BoxArea) (m : Site) (i row column : ℕ) → InBox area m → i ≡ row * width_of area + column → m.y ≡ (area.y0 +ℤ pos row) → m.x ≡ (area.x0 +ℤ pos column) → (site_at area i ≡ m) × (i < cell_count area)
numbered area m i row column inside is is_y is_x =
    let both = at_cell area m row column (width_of area) inside refl is_y is_x in
    (ap (site_at area) is ∙ both.0, omega (arith, is, both.1))

-- the number of a site of the box
pub index_of : (area : BoxArea) (m : Site) → InBox area m → (i : ℕ) × (i < cell_count area) × (site_at area i ≡ m)
index_of area m inside =
    let row = nat_abs (m.y -ℤ area.y0) in
    let column = nat_abs (m.x -ℤ area.x0) in
    let is_y : m.y ≡ (area.y0 +ℤ pos row) = omega (arith, ints, inside.bottom) in
    let is_x : m.x ≡ (area.x0 +ℤ pos column) = omega (arith, ints, inside.left) in
    let both = at_cell area m row column (width_of area) inside (λ k. width_of area) is_y is_x in
    (row * width_of area + column, both.1, both.0)

same_row : (low : ℤ) (a b : ℕ) → (low +ℤ pos a) ≡ (low +ℤ pos b) → a ≡ b
same_row low a b same = omega (arith, ints, same)

-- two numbers of one site are one
pub site_at-injective : (area : BoxArea) (i j : ℕ) → site_at area i ≡ site_at area j → i ≡ j
site_at-injective area i j same =
    let w = width_of area in
    let columns : i % w ≡ j % w = same_row area.x0 (i % w) (j % w) (ap (λ m. m.x) same) in
    let rows : i / w ≡ j / w = same_row area.y0 (i / w) (j / w) (ap (λ m. m.y) same) in
    sym (div-add-mod' i w) ∙ ap (λ k. k * w + i % w) rows ∙ ap (λ k. j / w * w + k) columns ∙ div-add-mod' j w

-- the numbers of the sites beside a site of the box
module _ (area : BoxArea) (m : Site) (i : ℕ) (inside : InBox area m) (here : site_at area i ≡ m) where
  row_here : m.y ≡ (area.y0 +ℤ pos (i / width_of area))
  row_here = ap (λ n. n.y) (sym here)

  column_here : m.x ≡ (area.x0 +ℤ pos (i % width_of area))
  column_here = ap (λ n. n.x) (sym here)

  split_here : i / width_of area * width_of area + i % width_of area ≡ i
  split_here = div-add-mod' i (width_of area)

  pub north_cell : m.y ≢ area.y1 → (site_at area (i + width_of area) ≡ neighbor m North) × (i + width_of area < cell_count area)
  north_cell below =
      let row = i / width_of area in
      let column = i % width_of area in
      let up : InBox area (neighbor m North) = record { left = inside.left; right = inside.right; bottom = omega (arith, ints, inside.bottom); top = omega (arith, ints, inside.top, below) } in
      numbered area (neighbor m North) (i + width_of area) (suc row) column up (omega (arith, split_here)) (omega (arith, ints, row_here)) column_here

  pub east_cell : m.x ≢ area.x1 → (site_at area (i + 1) ≡ neighbor m East) × (i + 1 < cell_count area)
  east_cell left =
      let row = i / width_of area in
      let column = i % width_of area in
      let right : InBox area (neighbor m East) = record { left = omega (arith, ints, inside.left); right = omega (arith, ints, inside.right, left); bottom = inside.bottom; top = inside.top } in
      numbered area (neighbor m East) (i + 1) row (column + 1) right (omega (arith, split_here)) row_here (omega (arith, ints, column_here))

  pub south_cell : m.y ≢ area.y0 → (site_at area (i - width_of area) ≡ neighbor m South) × (i - width_of area < cell_count area)
  south_cell above =
      let row = i / width_of area - 1 in
      let column = i % width_of area in
      let some : i / width_of area ≡ suc row = omega (arith, ints, row_here, inside.bottom, above) in
      let split : suc row * width_of area + column ≡ i = ap (λ r. r * width_of area + column) (sym some) ∙ split_here in
      let down : InBox area (neighbor m South) = record { left = inside.left; right = inside.right; bottom = omega (arith, ints, inside.bottom, above); top = omega (arith, ints, inside.top) } in
      numbered area (neighbor m South) (i - width_of area) row column down (omega (arith, split)) (omega (arith, ints, row_here, some)) column_here

  pub west_cell : m.x ≢ area.x0 → (site_at area (i - 1) ≡ neighbor m West) × (i - 1 < cell_count area)
  west_cell right =
      let row = i / width_of area in
      let column = i % width_of area - 1 in
      let some : i % width_of area ≡ suc column = omega (arith, ints, column_here, inside.left, right) in
      let left : InBox area (neighbor m West) = record { left = omega (arith, ints, inside.left, right); right = omega (arith, ints, inside.right); bottom = inside.bottom; top = inside.top } in
      numbered area (neighbor m West) (i - 1) row column left (omega (arith, split_here, some)) row_here (omega (arith, ints, column_here, some))

  -- where the row below is in the box, a row's numbers are left
  pub row_left : m.y ≢ area.y0 → width_of area ≤ i
  row_left above =
      let row = i / width_of area - 1 in
      let column = i % width_of area in
      let some : i / width_of area ≡ suc row = omega (arith, ints, row_here, inside.bottom, above) in
      let split : suc row * width_of area + column ≡ i = ap (λ r. r * width_of area + column) (sym some) ∙ split_here in
      omega (arith, split)

  pub one_left : m.x ≢ area.x0 → 1 ≤ i
  one_left right =
      let some : 1 ≤ i % width_of area = omega (arith, ints, column_here, inside.left, right) in
      omega (arith, split_here, some)

-- the sites with numbers below the count lie in the box
pub site_at-inside : (area : BoxArea) (i : ℕ) → IsBox area → i < cell_count area → InBox area (site_at area i)
site_at-inside area i limits below =
    let corners = limits.corners in
    let w = width_of area in
    let wide : 0 < w = omega (arith, ints, corners.columns) in
    let column : i % w < w = omega (arith, wide) in
    let row : i / w < height_of area = (div-lt_iff_lt-mul {k = w} {x = i} {y = height_of area} wide).1 (rw (mul_comm (height_of area) w) below) in
    record {
      left = omega (arith, ints);
      right = omega (arith, ints, column, corners.columns);
      bottom = omega (arith, ints);
      top = omega (arith, ints, row, corners.rows);
    }

-- there are at most 2^20 of them
pub cell_count-most : (area : BoxArea) → IsBox area → cell_count area ≤ 1048576
cell_count-most area limits =
    let corners = limits.corners in
    mul-le (width_of area) (height_of area) 1024 1024
    (omega (arith, ints, corners.columns, limits.width))
    (omega (arith, ints, corners.rows, limits.height))

-- a later number is no site before
later_row : (w a b c d : ℕ) → a * w + b ≤ c * w + d → b < w → d < w → c < a → ⊥
later_row w a b c d order b_within d_within less =
    let more : c * w + w ≤ a * w = grind (arith, mul-le) in
    let never : ⊥ = omega (arith, more, order, d_within) in
    never

pub not_before : (area : BoxArea) (i j : ℕ) → i ≤ j → 0 < width_of area → ¬ IsBefore (site_at area j) (site_at area i)
not_before area i j order wide before =
    let w = width_of area in
    let at_i : i / w * w + i % w ≡ i = div-add-mod' i w in
    let at_j : j / w * w + j % w ≡ j = div-add-mod' j w in
    let in_i : i % w < w = omega (arith, wide) in
    let in_j : j % w < w = omega (arith, wide) in
    let ordered : i / w * w + i % w ≤ j / w * w + j % w = omega (arith, order, at_i, at_j) in
    elim before [
      | inl row ↦
          let less : j / w < i / w = omega (arith, ints, row) in
          later_row w (i / w) (i % w) (j / w) (j % w) ordered in_i in_j less
      | inr column ↦
          let same : j / w ≡ i / w = omega (arith, ints, column.0) in
          let less : j % w < i % w = omega (arith, ints, column.1) in
          let rows : j / w * w ≡ i / w * w = ap (λ r. r * w) same in
          let never : ⊥ = omega (arith, rows, less, ordered) in
          never
    ]
