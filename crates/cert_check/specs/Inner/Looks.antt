-- What an entry looks like, and what is kept of the entries that passed.
use Rattle.std.specs.Prelude.{◌≡◌, ◌<◌, true, List, length, Option, Some, slice_get}
use Rattle.atam.specs.declared.site.Side.{Side}
use Rattle.atam.specs.declared.place.TypeId.{TypeId}
use Rattle.atam.specs.TileSystem.{TileSystem}
use Rattle.atam.specs.Assembly.{bond}
use Rattle.attach_rule.specs.declared.facing.FacingGlues.{FacingGlues}
use Rattle.attach_rule.specs.Facing.{FacesSite}
use Rattle.type_index.specs.Codes.{IsKeyOf}
use Rattle.type_cache.specs.Findings.{AreFindings, FoundBefore}
use Rattle.type_cache.specs.SideSets.{has}
use Rattle.cert_check.specs.declared.entry.Entry.{Entry}
use Rattle.cert_check.specs.declared.looks.Look.{Look}
use Rattle.cert_check.specs.Certificates.{states, places_of, is_waiting, IsHeldExactly, HasNoLooseBond, HasNoRival}

-- the glues that face an entry's site have the key, it states these sides, and on these the entries beside it wait
pub record LooksLike (sys : TileSystem) (c : List Entry) (e : Entry) (look : Look) : Type 0 where
  pub key : (glues : FacingGlues) → FacesSite sys (places_of c) e.place.site glues → IsKeyOf glues look.key
  pub sides : e.sides ≡ look.sides
  pub waits : (d : Side) → has look.waits d ≡ is_waiting c e.place.site d

-- an entry passes the checks of its own sides and site, but for the ranks of the entries that hold it
pub record PassesUnranked (sys : TileSystem) (c : List Entry) (e : Entry) : Type 0 where
  pub bound : (d : Side) → states e d ≡ true → 0 < bond sys (places_of c) e.place.site e.place.tile d
  pub exact : IsHeldExactly sys c e
  pub no_loose : HasNoLooseBond sys c e
  pub no_rival : HasNoRival sys c e

-- so does each entry of the type that looks so, whatever the certificate
abbrev pub PassesLooking : TileSystem → TypeId → Look → Type 0
PassesLooking sys t look = (c : List Entry) (e : Entry) → e.place.tile ≡ t → LooksLike sys c e look → PassesUnranked sys c e

-- the look of the entry of each type that passed last, and what was found for glues
pub record LookTable : Type 0 where
  pub last : List (Option Look)
  pub cache : FoundBefore

-- each entry of a type that looks as one that passed passes too
pub record AreLooks (sys : TileSystem) (table : LookTable) : Type 0 where
  pub count : length table.last ≡ length sys.types
  pub each : (t : TypeId) (look : Look) → slice_get table.last t.0 ≡ Some (Some look) → PassesLooking sys t look
  pub cache : AreFindings sys table.cache
