-- What is seen of a tile as it comes, by its type, the glues that face it and the sides beside which a tile stands.
use Rattle.std.specs.Prelude.{◌≡◌, ℕ, true, List, length, Some, slice_get}
use Rattle.atam.specs.declared.site.Site.{Site}
use Rattle.atam.specs.declared.place.TypeId.{TypeId}
use Rattle.atam.specs.declared.place.Place.{Place}
use Rattle.atam.specs.TileSystem.{TileSystem}
use Rattle.atam.specs.Assembly.{pull}
use Rattle.attach_rule.specs.declared.facing.FacingGlues.{FacingGlues}
use Rattle.attach_rule.specs.Facing.{FacesSite}
use Rattle.type_index.specs.Codes.{IsKeyOf}
use Rattle.type_cache.specs.Findings.{AreFindings, FoundBefore}
use Rattle.type_cache.specs.SideSets.{SideSet, sides_beside}
use Rattle.type_cache.specs.Clean.{ComesClean}
use Rattle.local_check.specs.declared.glances.Glance.{Glance}
use Rattle.local_check.specs.declared.glances.LastGlance.{LastGlance}

-- at a site among these tiles, the pull on the type, and that it comes clean, if that is said
pub record IsGlance (sys : TileSystem) (tiles : List Place) (m : Site) (t : TypeId) (glance : Glance) : Type 0 where
  pub sum : glance.sum ≡ pull sys tiles m t
  pub clean : glance.clean ≡ true → ComesClean sys tiles m t

-- it is so wherever the glues that face a site have the key, and tiles stand beside these sides
abbrev pub IsGlanceFor : TileSystem → TypeId → ℕ → SideSet → Glance → Type 0
IsGlanceFor sys t key beside glance = (tiles : List Place) (m : Site) (glues : FacingGlues) → FacesSite sys tiles m glues → IsKeyOf glues key →
    beside ≡ sides_beside tiles m → IsGlance sys tiles m t glance

abbrev pub glance_of : LastGlance → Glance
glance_of seen = record { sum = seen.sum; clean = seen.clean }

-- what was seen last for each type, and what was found for glues
pub record GlanceTable : Type 0 where
  pub last : List LastGlance
  pub cache : FoundBefore

-- each was seen for its type
pub record AreGlances (sys : TileSystem) (table : GlanceTable) : Type 0 where
  pub count : length table.last ≡ length sys.types
  pub each : (t : TypeId) (seen : LastGlance) → slice_get table.last t.0 ≡ Some seen → IsGlanceFor sys t seen.key seen.beside (glance_of seen)
  pub cache : AreFindings sys table.cache
