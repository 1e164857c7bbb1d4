-- The sites that a search looks at.
use Rattle.std.specs.Prelude.{◌≡◌, ◌⊎◌, ℤ, pos, ◌+ℤ◌, ◌-ℤ◌, ◌≤ℤ◌}
use Rattle.atam.specs.declared.site.Side.{Side}
use Rattle.atam.specs.declared.site.Site.{Site}
use Rattle.atam.specs.declared.area.BoxArea.{BoxArea}
use Rattle.atam.specs.Sites.{neighbor, InBox}

-- the sites at this height in the columns of a box
abbrev pub row_at : BoxArea → ℤ → BoxArea
row_at area y = record { x0 = area.x0; y0 = y; x1 = area.x1; y1 = y }

-- a site at the western or the eastern end of a row of a box, just outside it
pub record IsAtEnds (area : BoxArea) (m : Site) : Type 0 where
  pub column : (m.x ≡ area.x0 -ℤ pos 1) ⊎ (m.x ≡ area.x1 +ℤ pos 1)
  pub bottom : area.y0 ≤ℤ m.y
  pub top : m.y ≤ℤ area.y1

-- of the sites beside this one, none is in a box but for that in this direction
abbrev pub IsBesideBox : BoxArea → Side → Site → Type 0
IsBesideBox area d m = (e : Side) → InBox area (neighbor m e) → e ≡ d
