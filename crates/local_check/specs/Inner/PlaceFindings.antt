-- What is found at a place, by its type, the glues that face it and the sides beside which a tile stood before.
use Rattle.std.specs.Prelude.{◌≡◌, ℕ, Bool, true, List, length, Some, IfSome, slice_get}
use Rattle.atam.specs.declared.site.Site.{Site}
use Rattle.atam.specs.declared.place.TypeId.{TypeId}
use Rattle.atam.specs.declared.place.Place.{Place}
use Rattle.atam.specs.TileSystem.{TileSystem}
use Rattle.attach_rule.specs.declared.facing.FacingGlues.{FacingGlues}
use Rattle.attach_rule.specs.Facing.{FacesSite}
use Rattle.type_index.specs.HeldTypes.{FirstHeldBut}
use Rattle.type_index.specs.Codes.{IsKeyOf}
use Rattle.type_cache.specs.Findings.{AreFindings, FoundBefore}
use Rattle.type_cache.specs.SideSets.{SideSet, intersection, difference, complement, glues_on}
use Rattle.local_check.specs.declared.findings.PlaceFinding.{PlaceFinding}
use Rattle.local_check.specs.declared.findings.LastFinding.{LastFinding}
use Rattle.local_check.specs.Inner.Sides.{bound_sides, pull_on}

-- At a site among these tiles, of which those beside some sides stood there before, the sides of a type that interact with these, the other
-- sides that interact, and the pull of those that stood there before. And where rivals are sought, the first other type that the glues on all
-- sides but these others hold.
pub record IsFinding (sys : TileSystem) (tiles : List Place) (m : Site) (t : TypeId) (before : SideSet) (seeks : Bool) (f : PlaceFinding) : Type 0 where
  pub earlier : f.earlier ≡ intersection (bound_sides sys tiles m t) before
  pub outputs : f.outputs ≡ difference (bound_sides sys tiles m t) before
  pub sum : f.sum ≡ pull_on sys tiles m t before
  pub rival : seeks ≡ true → (glues : FacingGlues) → FacesSite sys tiles m glues → FirstHeldBut sys (glues_on (complement f.outputs) glues) t f.rival

-- it was found for the type, wherever the glues that face a site have the key
abbrev pub IsKnown : TileSystem → Bool → TypeId → LastFinding → Type 0
IsKnown sys seeks t known = (tiles : List Place) (m : Site) (glues : FacingGlues) → FacesSite sys tiles m glues → IsKeyOf glues known.key →
    IsFinding sys tiles m t known.before seeks known.finding

-- what was found last for each type, what was found for glues, and whether rivals are sought
pub record FindingTable : Type 0 where
  pub last : List LastFinding
  pub cache : FoundBefore
  pub seeks : Bool

-- each was found for its type
pub record ArePlaceFindings (sys : TileSystem) (table : FindingTable) : Type 0 where
  pub count : length table.last ≡ length sys.types
  pub each : (t : TypeId) (known : LastFinding) → slice_get table.last t.0 ≡ Some known → IsKnown sys table.seeks t known
  pub cache : AreFindings sys table.cache

-- it was found last for the type, with this key and before these sides
abbrev pub IsKept : FindingTable → TypeId → ℕ → SideSet → Type 0
IsKept table t key before = IfSome (slice_get table.last t.0) (λ known. (known.key ≡ key) × (known.before ≡ before))
