-- The glues that face a site.
use Rattle.std.specs.Prelude.{◌≡◌, ℕ, ◌+◌, List, None}
use Rattle.atam.specs.declared.site.Side.TheVariants.{North, East, South, West}
use Rattle.atam.specs.declared.site.Site.{Site}
use Rattle.atam.specs.declared.place.TypeId.{TypeId}
use Rattle.atam.specs.declared.place.Place.{Place}
use Rattle.atam.specs.Sites.{neighbor}
use Rattle.atam.specs.TileSystem.{TileSystem, side_glue}
use Rattle.atam.specs.Assembly.{interaction, glue_at}
use Rattle.attach_rule.specs.declared.facing.FacingGlues.{FacingGlues}

-- each is the glue on the near side of the tile in that direction
pub record FacesSite (sys : TileSystem) (tiles : List Place) (m : Site) (glues : FacingGlues) : Type 0 where
  pub north : glues.north ≡ glue_at sys tiles (neighbor m North) South
  pub east : glues.east ≡ glue_at sys tiles (neighbor m East) West
  pub south : glues.south ≡ glue_at sys tiles (neighbor m South) North
  pub west : glues.west ≡ glue_at sys tiles (neighbor m West) East

-- no glue faces the site
pub record AreNone (glues : FacingGlues) : Type 0 where
  pub north : glues.north ≡ None
  pub east : glues.east ≡ None
  pub south : glues.south ≡ None
  pub west : glues.west ≡ None

-- the pull on a type at a site that these glues face
abbrev pub facing_pull : TileSystem → FacingGlues → TypeId → ℕ
facing_pull sys glues t =
    interaction sys (side_glue sys t North) glues.north + interaction sys (side_glue sys t East) glues.east
    + interaction sys (side_glue sys t South) glues.south + interaction sys (side_glue sys t West) glues.west
