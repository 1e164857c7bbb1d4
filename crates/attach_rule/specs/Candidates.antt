-- The types that attach at a site, and a list of types with room.
use Rattle.std.specs.Prelude.{ℕ, ◌<◌, List, All, AllPairs, Contains}
use Rattle.atam.specs.declared.site.Site.{Site}
use Rattle.atam.specs.declared.place.TypeId.{TypeId}
use Rattle.atam.specs.declared.place.Place.{Place}
use Rattle.atam.specs.TileSystem.{TileSystem}
use Rattle.atam.specs.Growth.{IsCandidate}

-- types, and how many there is room for without more memory
pub record RoomyTypes : Type 0 where
  pub types : List TypeId
  pub room : ℕ

-- all types that attach at the site and no others, by index
pub record AreCandidates (sys : TileSystem) (tiles : List Place) (m : Site) (types : List TypeId) : Type 0 where
  pub sorted : AllPairs (λ t u. t.0 < u.0) types
  pub each : All (IsCandidate sys tiles m) types
  pub complete : (t : TypeId) → IsCandidate sys tiles m t → Contains types t
