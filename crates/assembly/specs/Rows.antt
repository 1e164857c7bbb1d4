-- Rows of a box.
use Rattle.std.specs.Prelude.{◌≡◌, ℕ, ◌+◌, ◌*◌, ◌≤◌, ◌<◌, nat_abs, ◌-ℤ◌, ◌≤ℤ◌}
use Rattle.atam.specs.declared.area.BoxArea.{BoxArea}
use Rattle.atam.specs.Sites.{width_of}
use Rattle.assembly.specs.declared.row.Row.{Row}

-- the row is in the box, and the number is that of its first site
pub record IsRow (area : BoxArea) (row : Row) : Type 0 where
  pub bottom : area.y0 ≤ℤ row.y
  pub top : row.y ≤ℤ area.y1
  pub number : row.first ≡ nat_abs (row.y -ℤ area.y0) * width_of area

-- the site with this number is in the row
pub record HasNumber (area : BoxArea) (row : Row) (number : ℕ) : Type 0 where
  pub after : row.first ≤ number
  pub before : number < row.first + width_of area
