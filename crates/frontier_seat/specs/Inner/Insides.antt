-- Sites at no edge of their box.
use Rattle.std.specs.Prelude.{◌≢◌}
use Rattle.atam.specs.declared.site.Site.{Site}
use Rattle.atam.specs.declared.area.BoxArea.{BoxArea}

-- The site is in none of the outermost rows and columns of its box, so that the sites beside it are in the box too.
pub record IsInner (area : BoxArea) (m : Site) : Type 0 where
  pub top : m.y ≢ area.y1
  pub right : m.x ≢ area.x1
  pub bottom : m.y ≢ area.y0
  pub left : m.x ≢ area.x0
