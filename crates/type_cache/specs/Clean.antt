-- Tiles that come clean: what is told by the tiles so far suffices to rule out rivals.
use Rattle.std.specs.Prelude.{◌≡◌, ◌⊎◌, ℕ, ◌<◌, ◌≤◌, true, List, length, take, Some, slice_get}
use Rattle.atam.specs.declared.site.Side.{Side}
use Rattle.atam.specs.declared.site.Side.TheVariants.{North, East, South, West}
use Rattle.atam.specs.declared.site.Site.{Site}
use Rattle.atam.specs.declared.place.TypeId.{TypeId}
use Rattle.atam.specs.declared.place.Place.{Place}
use Rattle.atam.specs.Sites.{neighbor, opposite}
use Rattle.atam.specs.TileSystem.{TileSystem, side_glue}
use Rattle.atam.specs.Placements.{tile_at}
use Rattle.atam.specs.Assembly.{interaction, bond, pull}
use Rattle.atam.specs.Canonical.{IsCanonical}
use Rattle.atam.specs.Determinism.{HasExactInputs}
use Rattle.atam.specs.Growth.{IsCandidate}
use Rattle.attach_rule.specs.declared.bonding.Strengths.{Strengths}
use Rattle.type_cache.specs.SideSets.{SideSet, has}

-- no type of the system interacts with this side of a tile of the type
abbrev pub IsDead : TileSystem → TypeId → Side → Type 0
IsDead sys t d = (u : TypeId) → interaction sys (side_glue sys u (opposite d)) (side_glue sys t d) ≡ 0

abbrev pub strength_on : Strengths → Side → ℕ
strength_on bonds North = bonds.north
strength_on bonds East = bonds.east
strength_on bonds South = bonds.south
strength_on bonds West = bonds.west

-- each of these sides has a strength, or is dead
abbrev pub AreSettled : TileSystem → TypeId → Strengths → SideSet → Type 0
AreSettled sys t bonds sides = (d : Side) → has sides d ≡ true → (0 < strength_on bonds d) ⊎ IsDead sys t d

-- A tile of the type comes clean at the site, among these tiles: no other type attaches there, and each of its sides beside which a tile stands
-- interacts with that tile, or is dead.
pub record ComesClean (sys : TileSystem) (tiles : List Place) (m : Site) (t : TypeId) : Type 0 where
  pub sole : (u : TypeId) → IsCandidate sys tiles m u → u ≡ t
  pub settled : (d : Side) (v : TypeId) → tile_at tiles (neighbor m d) ≡ Some v → (0 < bond sys tiles m t d) ⊎ IsDead sys t d

-- a tile of the type comes clean at the site, and is held there by exactly the temperature
pub record ComesExact (sys : TileSystem) (tiles : List Place) (m : Site) (t : TypeId) : Type 0 where
  pub clean : ComesClean sys tiles m t
  pub exact : pull sys tiles m t ≡ sys.tau

-- a tile of whichever type attaches at the site does
abbrev pub OpensExact : TileSystem → List Place → Site → Type 0
OpensExact sys tiles m = (t : TypeId) → IsCandidate sys tiles m t → ComesExact sys tiles m t

-- each place before index n, but the seeds, came clean among the places before it
abbrev pub AllCleanBelow : TileSystem → List Place → ℕ → Type 0
AllCleanBelow sys s n = (i : ℕ) (p : Place) → length sys.seeds ≤ i → i < n → slice_get s i ≡ Some p → ComesClean sys (take i s) p.site p.tile

-- each place but the seeds did
abbrev pub HasCleanPlaces : TileSystem → List Place → Type 0
HasCleanPlaces sys s = (i : ℕ) (p : Place) → length sys.seeds ≤ i → slice_get s i ≡ Some p → ComesClean sys (take i s) p.site p.tile

-- each place but the seeds came clean, and is held by exactly the temperature
pub record CameExact (sys : TileSystem) (s : List Place) : Type 0 where
  pub clean : HasCleanPlaces sys s
  pub exact : HasExactInputs sys s

-- so it is with each place of the canonical sequence of these tiles
abbrev pub GrewExact : TileSystem → List Place → Type 0
GrewExact sys tiles = (s : List Place) → IsCanonical sys tiles s → CameExact sys s
