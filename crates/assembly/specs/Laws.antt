-- Laws of the numbers of a box's sites.
use Rattle.std.specs.Prelude.{◌≡◌, ℕ, ◌<◌, ◌≤◌, ◌*◌}
use Rattle.atam.specs.declared.limits.TheConstants.{LONGEST_SIDE}
use Rattle.atam.specs.declared.site.Site.{Site}
use Rattle.atam.specs.declared.area.BoxArea.{BoxArea}
use Rattle.atam.specs.Sites.{IsBefore, InBox, HasCorners, IsBox}
use Rattle.assembly.specs.Cells.{cell_count, site_at}

-- each site of a box has a number below their count
abbrev pub EachSiteIsNumbered : Type 0
EachSiteIsNumbered = (area : BoxArea) (m : Site) → InBox area m → (i : ℕ) × (i < cell_count area) × (site_at area i ≡ m)

-- and only one
abbrev pub EachSiteHasOneNumber : Type 0
EachSiteHasOneNumber = (area : BoxArea) (i j : ℕ) → site_at area i ≡ site_at area j → i ≡ j

-- each number below the count is that of a site of the box
abbrev pub EachNumberIsOfSite : Type 0
EachNumberIsOfSite = (area : BoxArea) (i : ℕ) → IsBox area → i < cell_count area → InBox area (site_at area i)

-- a later number is that of no earlier site
abbrev pub NumbersFollowSites : Type 0
NumbersFollowSites = (area : BoxArea) (i j : ℕ) → HasCorners area → i ≤ j → ¬ IsBefore (site_at area j) (site_at area i)

-- a box has no more sites than its sides allow
abbrev pub HasFewSites : Type 0
HasFewSites = (area : BoxArea) → IsBox area → cell_count area ≤ LONGEST_SIDE * LONGEST_SIDE
