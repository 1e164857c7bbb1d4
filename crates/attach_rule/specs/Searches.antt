-- What a search at one site finds, and the sites that a search looks at.
use Rattle.std.specs.Prelude.{◌≤◌, List, Option, MatchOption}
use Rattle.atam.specs.declared.site.Site.{Site}
use Rattle.atam.specs.declared.place.TypeId.{TypeId}
use Rattle.atam.specs.declared.place.Place.{Place}
use Rattle.atam.specs.TileSystem.{TileSystem}
use Rattle.atam.specs.Growth.{IsCandidate}

-- the type attaches at the site, and none with a lesser index does
pub record AttachesFirst (sys : TileSystem) (tiles : List Place) (m : Site) (t : TypeId) : Type 0 where
  pub grows : IsCandidate sys tiles m t
  pub least : (u : TypeId) → IsCandidate sys tiles m u → t.0 ≤ u.0

-- none exactly where no type attaches at the site
abbrev pub IsFirstType : TileSystem → List Place → Site → Option TypeId → Type 0
IsFirstType sys tiles m found = MatchOption found ((t : TypeId) → ¬ IsCandidate sys tiles m t) (AttachesFirst sys tiles m)
