-- The type that the line behind a growth names is one of its system.
use Rattle.std.proofs.Common.{List, Option, Some, None, IfSome}
use Rattle.atam.specs.declared.place.Place.{Place}
use Rattle.atam.specs.declared.place.TypeId.{TypeId}
use Rattle.atam.specs.declared.site.Site.{Site}
use Rattle.atam.specs.TileSystem.{TileSystem, IsType}
use Rattle.atam.specs.Growth.{IsLeastOpenOutside}

-- the type that is open outside is one of the system
pub open_type : (sys : TileSystem) (tiles : List Place) (outside : Option (Site × TypeId)) → IsLeastOpenOutside sys tiles outside → IfSome outside (λ found. IsType sys found.1)
open_type sys tiles None least = tt
open_type sys tiles (Some found) least = least.grows.kind
