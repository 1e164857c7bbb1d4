-- What was found for the glues that face a site: what is known by them, what makes a tile come clean, and what is kept with their key.
use Rattle.std.specs.Prelude.{◌≡◌, ◌⊎◌, ℕ, ◌<◌, ◌≤◌, ◌-◌, ◌==◌, if◌then◌else◌, true, List, All, length, Option, Some, None, IfSome}
use Rattle.atam.specs.declared.site.Side.{Side}
use Rattle.atam.specs.declared.site.Site.{Site}
use Rattle.atam.specs.declared.place.TypeId.{TypeId}
use Rattle.atam.specs.declared.place.Place.{Place}
use Rattle.atam.specs.TileSystem.{TileSystem}
use Rattle.atam.specs.Assembly.{bond, pull}
use Rattle.atam.specs.Growth.{IsCandidate}
use Rattle.attach_rule.specs.declared.facing.FacingGlues.{FacingGlues}
use Rattle.attach_rule.specs.Candidates.{RoomyTypes}
use Rattle.attach_rule.specs.Facing.{FacesSite}
use Rattle.type_index.specs.declared.found.Found.{Found}
use Rattle.type_index.specs.Codes.{IsKeyOf}
use Rattle.type_index.specs.HeldTypes.{AreHeld}
use Rattle.type_index.specs.Sums.{SumsUpHeld}
use Rattle.type_cache.specs.declared.known.Known.{Known}
use Rattle.type_cache.specs.declared.finding.Finding.{Finding}
use Rattle.type_cache.specs.SideSets.{SideSet, has}
use Rattle.type_cache.specs.Clean.{IsDead}

-- no more types than 16 bits count, and none with an index that doesn't fit in them
pub record IsSmall (found : Found) : Type 0 where
  pub count : found.count < 65536
  pub first : IfSome found.first (λ t. t.0 < 65535)
  pub second : IfSome found.second (λ t. t.0 < 65535)

-- the type with this code, which is one more than its index; 0 is the code of none
abbrev pub type_of : ℕ → Option TypeId
type_of code = if code == 0 then None else Some (record { 0 = code - 1 })

-- what was found, by the codes that are kept
abbrev pub found_in : Known → Found
found_in known = record { count = known.count; first = type_of known.first; second = type_of known.second }

-- a list of types, with the key of the glues that hold them
pub record KeyedTypes : Type 0 where
  pub key : ℕ
  pub listed : RoomyTypes

-- all types that the glues with the key hold, by index, and there is room for all types
pub record IsHeldList (sys : TileSystem) (list : KeyedTypes) : Type 0 where
  pub held : (glues : FacingGlues) → IsKeyOf glues list.key → AreHeld sys glues list.listed.types
  pub room : length sys.types ≤ list.listed.room

-- One type alone may attach at the site, held by exactly the temperature, and on this side it interacts with the tile there, or is dead.
pub record SettlesSide (sys : TileSystem) (tiles : List Place) (m : Site) (d : Side) : Type 0 where
  pub tile : TypeId
  pub sole : (u : TypeId) → IsCandidate sys tiles m u → u ≡ tile
  pub exact : pull sys tiles m tile ≡ sys.tau
  pub settled : (0 < bond sys tiles m tile d) ⊎ IsDead sys tile d

-- so it is with each of these sides wherever these glues face a site
abbrev pub SettleSides : TileSystem → FacingGlues → SideSet → Type 0
SettleSides sys glues sides = (tiles : List Place) (m : Site) → FacesSite sys tiles m glues → (d : Side) → has sides d ≡ true → SettlesSide sys tiles m d

-- what is known of a site that these glues face
pub record IsKnownOf (sys : TileSystem) (glues : FacingGlues) (known : Known) : Type 0 where
  pub sum : SumsUpHeld sys glues (found_in known)
  pub settled : SettleSides sys glues known.settled

-- each was found for the glues with its key
unfoldable pub AreKnownByKey : TileSystem → List Finding → Type 0
AreKnownByKey sys findings = All (λ f. (glues : FacingGlues) → IsKeyOf glues f.key → IsKnownOf sys glues f.known) findings

-- what was found before, and the types that were listed last
pub record FoundBefore : Type 0 where
  pub findings : List Finding
  pub list : KeyedTypes

-- all that is found there holds for the glues with its key
pub record AreFindings (sys : TileSystem) (before : FoundBefore) : Type 0 where
  pub known : AreKnownByKey sys before.findings
  pub list : IsHeldList sys before.list
