-- The sites of a box by one number: by rows from the least corner, from column to column within a row.
use Rattle.std.specs.Prelude.{◌≡◌, ℕ, ◌<◌, ◌*◌, ◌/◌, ◌%◌, Option, MatchOption}
use Rattle.atam.specs.declared.site.Site.{Site}
use Rattle.atam.specs.declared.area.BoxArea.{BoxArea}
use Rattle.atam.specs.Sites.{InBox, width_of, height_of, site_in}

-- how many sites a box has
abbrev pub cell_count : BoxArea → ℕ
cell_count area = width_of area * height_of area

-- the site with this number
abbrev pub site_at : BoxArea → ℕ → Site
site_at area i = site_in area (i % width_of area) (i / width_of area)

-- the number of a site of the box
pub record IsSiteNumber (area : BoxArea) (m : Site) (number : ℕ) : Type 0 where
  pub within : number < cell_count area
  pub site : site_at area number ≡ m

-- the number of a site; none exactly where it isn't in the box
abbrev pub IsNumberOf : BoxArea → Site → Option ℕ → Type 0
IsNumberOf area m found = MatchOption found (¬ InBox area m) (IsSiteNumber area m)
