-- What is found at a site: the number of the types that attach there, the first and the second of them.
use Rattle.std.specs.Prelude.{◌≡◌, List, length, slice_get}
use Rattle.atam.specs.declared.site.Site.{Site}
use Rattle.atam.specs.declared.place.TypeId.{TypeId}
use Rattle.atam.specs.declared.place.Place.{Place}
use Rattle.atam.specs.TileSystem.{TileSystem}
use Rattle.attach_rule.specs.declared.facing.FacingGlues.{FacingGlues}
use Rattle.attach_rule.specs.Candidates.{AreCandidates}
use Rattle.type_index.specs.declared.found.Found.{Found}
use Rattle.type_index.specs.HeldTypes.{AreHeld}

-- of a list of types
pub record SumsUp (types : List TypeId) (found : Found) : Type 0 where
  pub count : found.count ≡ length types
  pub first : found.first ≡ slice_get types 0
  pub second : found.second ≡ slice_get types 1

-- of all types that attach at the site, by index
pub record SumsUpCandidates (sys : TileSystem) (tiles : List Place) (m : Site) (found : Found) : Type 0 where
  pub types : List TypeId
  pub are : AreCandidates sys tiles m types
  pub sum : SumsUp types found

-- of all types that the glues hold, by index
pub record SumsUpHeld (sys : TileSystem) (glues : FacingGlues) (found : Found) : Type 0 where
  pub types : List TypeId
  pub are : AreHeld sys glues types
  pub sum : SumsUp types found
