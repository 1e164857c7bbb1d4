-- The strengths of a tile with the tiles beside it.
use Rattle.std.specs.Prelude.{◌≡◌, ℕ, ◌+◌, ◌≤◌, List}
use Rattle.atam.specs.declared.limits.TheConstants.{MOST_STRENGTH}
use Rattle.atam.specs.declared.site.Side.TheVariants.{North, East, South, West}
use Rattle.atam.specs.declared.site.Site.{Site}
use Rattle.atam.specs.declared.place.TypeId.{TypeId}
use Rattle.atam.specs.declared.place.Place.{Place}
use Rattle.atam.specs.TileSystem.{TileSystem}
use Rattle.atam.specs.Assembly.{bond}
use Rattle.attach_rule.specs.declared.bonding.Strengths.{Strengths}

-- each is the strength with the tile in that direction
pub record AreBonds (sys : TileSystem) (tiles : List Place) (m : Site) (t : TypeId) (bonds : Strengths) : Type 0 where
  pub north : bonds.north ≡ bond sys tiles m t North
  pub east : bonds.east ≡ bond sys tiles m t East
  pub south : bonds.south ≡ bond sys tiles m t South
  pub west : bonds.west ≡ bond sys tiles m t West

-- none is above the greatest strength
pub record AreStrengths (bonds : Strengths) : Type 0 where
  pub north : bonds.north ≤ MOST_STRENGTH
  pub east : bonds.east ≤ MOST_STRENGTH
  pub south : bonds.south ≤ MOST_STRENGTH
  pub west : bonds.west ≤ MOST_STRENGTH

abbrev pub sum_of : Strengths → ℕ
sum_of bonds = bonds.north + bonds.east + bonds.south + bonds.west
