-- Rows of a box, and the sites in them.
use Rattle.std.proofs.Common.{◌≡◌, ◌<◌, ◌≤◌, ◌-◌, ◌*◌, ◌+◌, ℕ, ℤ, pos, negsuc, ◌+ℤ◌, ◌-ℤ◌, ◌≤ℤ◌, nat_abs, w32, to_z, of_z, sym, ◌∙◌, ap, arith}
use Rattle.std.proofs.lemmas.Int.{ints}
use Rattle.atam.specs.declared.area.BoxArea.{BoxArea}
use Rattle.atam.specs.declared.site.Site.{Site}
use Rattle.atam.specs.Sites.{InBox, IsBox, width_of}
use Rattle.assembly.specs.declared.row.Row.{Row}
use Rattle.assembly.specs.Cells.{site_at}
use Rattle.assembly.specs.Rows.{HasNumber, IsRow}
use Rattle.assembly.proofs.Cells.{at_cell, site_at-injective}

-- what a cast leaves of a coordinate, and of a distance
coordinate_kept : (z : ℤ) → negsuc 999999 ≤ℤ z → z ≤ℤ pos 1000000 → to_z w32 (of_z w32 z) ≡ z
coordinate_kept z floor top = omega (arith, ints)

column_kept : (low x : ℤ) → low ≤ℤ x → negsuc 999999 ≤ℤ low → x ≤ℤ pos 1000000 → nat_abs (to_z w32 (of_z w32 (to_z w32 (of_z w32 x) -ℤ to_z w32 (of_z w32 low)))) ≡ nat_abs (x -ℤ low)
column_kept low x above floor top = omega (arith, ints)

moved_right : (low : ℤ) (n : ℕ) → negsuc 999999 ≤ℤ low → low ≤ℤ pos 1000000 → n < 1024 → to_z w32 (of_z w32 (to_z w32 (of_z w32 low) +ℤ to_z w32 n)) ≡ (low +ℤ pos n)
moved_right low n floor top few = omega (arith, ints)

-- the number of a site is that of its row and column
site_number : (area : BoxArea) (m : Site) (number : ℕ) → InBox area m → site_at area number ≡ m → number ≡ nat_abs (m.y -ℤ area.y0) * width_of area + nat_abs (m.x -ℤ area.x0)
site_number area m number inside here =
    let row = nat_abs (m.y -ℤ area.y0) in
    let column = nat_abs (m.x -ℤ area.x0) in
    let is_y : m.y ≡ (area.y0 +ℤ pos row) = omega (arith, ints, inside.bottom) in
    let is_x : m.x ≡ (area.x0 +ℤ pos column) = omega (arith, ints, inside.left) in
    let there = at_cell area m row column (width_of area) inside (λ k. width_of area) is_y is_x in
    site_at-injective area number _ (here ∙ sym there.0)

-- the row of a site
row_at : (area : BoxArea) (m : Site) (number : ℕ) (row : Row) → InBox area m → site_at area number ≡ m → row.y ≡ m.y → row.first ≡ number - nat_abs (m.x -ℤ area.x0) → IsRow area row × HasNumber area row number
row_at area m number row inside here same first =
    let a = inside.left in
    let b = inside.right in
    let bottom = inside.bottom in
    let top = inside.top in
    let is = site_number area m number inside here in
    let narrow : nat_abs (m.x -ℤ area.x0) < width_of area = omega (arith, ints, a, b) in
    let begins : row.first ≡ nat_abs (m.y -ℤ area.y0) * width_of area = omega (arith, first, is) in (
      record {
        bottom = omega (arith, ints, bottom, same);
        top = omega (arith, ints, top, same);
        number = begins ∙ ap (λ (y : ℤ). nat_abs (y -ℤ area.y0) * width_of area) (sym same);
      },
      record { after = omega (arith, first); before = omega (arith, first, is, narrow) },
    )

-- as it is worked out
pub row_found : (area : BoxArea) (m : Site) (number : ℕ) → IsBox area → m ≡ site_at area number → InBox area m →
    let row : Row = record { y = to_z w32 (of_z w32 m.y); first = number - nat_abs (to_z w32 (of_z w32 (to_z w32 (of_z w32 m.x) -ℤ to_z w32 (of_z w32 area.x0)))) } in IsRow area row × HasNumber area row number
row_found area m number limits here inside =
    let corners = limits.corners in
    row_at area m number _ inside (sym here)
    (coordinate_kept m.y (omega (arith, ints, inside.bottom, corners.bottom)) (omega (arith, ints, inside.top, corners.top)))
    (ap (λ k. number - k) (column_kept area.x0 m.x inside.left corners.left (omega (arith, ints, inside.right, corners.right))))

-- the site with a number of the row
in_row : (area : BoxArea) (row : Row) (number : ℕ) (m : Site) → IsBox area → IsRow area row → HasNumber area row number → m.y ≡ row.y → m.x ≡ (area.x0 +ℤ pos (number - row.first)) → (m ≡ site_at area number) × InBox area m
in_row area row number m limits is has same_y same_x =
    let columns = limits.corners.columns in
    let bottom = is.bottom in
    let top = is.top in
    let after = has.after in
    let before = has.before in
    let narrow : number - row.first < width_of area = omega (arith, after, before) in
    let inside : InBox area m = record { left = omega (arith, ints, same_x); right = omega (arith, ints, same_x, narrow, columns); bottom = omega (arith, ints, bottom, same_y); top = omega (arith, ints, top, same_y) } in
    let height = nat_abs (m.y -ℤ area.y0) in
    let begins : row.first ≡ height * width_of area = is.number ∙ ap (λ (y : ℤ). nat_abs (y -ℤ area.y0) * width_of area) (sym same_y) in
    let is_y : m.y ≡ (area.y0 +ℤ pos height) = omega (arith, ints, bottom, same_y) in
    let there = at_cell area m height (number - row.first) (width_of area) inside (λ k. width_of area) is_y same_x in
    let number_is : height * width_of area + (number - row.first) ≡ number = omega (arith, begins, after) in
    (sym there.0 ∙ ap (site_at area) number_is, inside)

-- as it is worked out
pub site_found : (area : BoxArea) (row : Row) (number : ℕ) → IsBox area → IsRow area row → HasNumber area row number →
    let m : Site = record { x = to_z w32 (of_z w32 (to_z w32 (of_z w32 area.x0) +ℤ to_z w32 (number - row.first))); y = to_z w32 (of_z w32 row.y) } in (m ≡ site_at area number) × InBox area m
site_found area row number limits is has =
    let corners = limits.corners in
    let after = has.after in
    let before = has.before in
    let wide : width_of area ≤ 1024 = omega (arith, ints, corners.columns, limits.width) in
    in_row area row number _ limits is has
    (coordinate_kept row.y (omega (arith, ints, is.bottom, corners.bottom)) (omega (arith, ints, is.top, corners.top)))
    (moved_right area.x0 (number - row.first) corners.left (omega (arith, ints, corners.columns, corners.right)) (omega (arith, after, before, wide)))
