-- Laws of the core, over every state.
use Rattle.std.specs.Prelude.{◌≡◌, ◌≢◌, ◌↔◌, ℕ, List, Some, Result, Err, Contains}
use Rattle.atam.specs.TileSystem.{TileSystem, IsValid}
use Rattle.atam.specs.Growth.{IsProducible, IsClosedInBox}
use Rattle.atam.specs.Placements.{SamePlacements, tile_at}
use Rattle.atam.specs.declared.site.Site.{Site}
use Rattle.atam.specs.declared.place.TypeId.{TypeId}
use Rattle.grow_core.specs.declared.placed_tile.PlacedTile.{PlacedTile}
use Rattle.atam.specs.declared.event.Event.{Event}
use Rattle.atam.specs.declared.event.Seen.{Seen}
use Rattle.atam.specs.declared.event.CoreStop.{CoreStop}
use Rattle.atam.specs.declared.event.CoreStop.TheVariants.{NoMemory}
use Rattle.grow_core.specs.Core.{ScoutState, CoreState, Owns, places, CoreInvariant}
use Rattle.grow_core.specs.Steps.{CoreStep, CoreRun, HasScout, IsStart, without_scout}

-- the start has the core's invariant
abbrev pub StartHasInvariant : Type 0
StartHasInvariant = (sys : TileSystem) (s : CoreState) → IsValid sys → IsStart sys s → CoreInvariant sys s

-- and each event keeps it, answered or refused
abbrev pub EventsKeepInvariant : Type 0
EventsKeepInvariant = (sys : TileSystem) (s t : CoreState) (event : Event) (reply : Result Seen CoreStop) →
    IsValid sys → CoreStep sys s event reply t → CoreInvariant sys s → CoreInvariant sys t

-- so it holds after all events from the start, and the tiles can be produced
abbrev pub RunsKeepInvariant : Type 0
RunsKeepInvariant = (sys : TileSystem) (s t : CoreState) (replies : List (Event × Result Seen CoreStop)) →
    IsValid sys → IsStart sys s → CoreRun sys s replies t → CoreInvariant sys t × IsProducible sys (places t.tiles)

-- each valid system has a start
abbrev pub StartIsThere : Type 0
StartIsThere = (sys : TileSystem) → IsValid sys → (s : CoreState) × IsStart sys s

-- and where the invariant holds, each event has a reply
abbrev pub EventsAreAnswered : Type 0
EventsAreAnswered = (sys : TileSystem) (s : CoreState) (event : Event) → CoreInvariant sys s →
    (reply : Result Seen CoreStop) × (t : CoreState) × CoreStep sys s event reply t

-- and no two, but that memory may be wanting
abbrev pub RepliesAreUnique : Type 0
RepliesAreUnique = (sys : TileSystem) (s t u : CoreState) (event : Event) (one two : Result Seen CoreStop) →
    CoreStep sys s event one t → CoreStep sys s event two u →
    one ≢ Err NoMemory → two ≢ Err NoMemory → one ≡ two

-- the invariant stays where a scout is left out
abbrev pub LeavingKeepsInvariant : Type 0
LeavingKeepsInvariant = (sys : TileSystem) (s : CoreState) (name : ℕ) → CoreInvariant sys s → CoreInvariant sys (without_scout s name)

-- a refused event leaves the state as it was
abbrev pub RefusalsChangeNothing : Type 0
RefusalsChangeNothing = (sys : TileSystem) (s t : CoreState) (event : Event) (stop : CoreStop) →
    CoreStep sys s event (Err stop) t → t ≡ s

-- where a scout has seen a closed assembly, that is all of the tiles, and no event adds one
abbrev pub SeenAndClosedIsAll : Type 0
SeenAndClosedIsAll = (sys : TileSystem) (s : CoreState) (name : ℕ) (v : ScoutState) →
    CoreInvariant sys s → HasScout s name v → IsClosedInBox sys v.seen → SamePlacements v.seen (places s.tiles)

abbrev pub ClosedIsFinal : Type 0
ClosedIsFinal = (sys : TileSystem) (s t : CoreState) (event : Event) (reply : Result Seen CoreStop) (name : ℕ) (v : ScoutState) →
    IsValid sys → CoreInvariant sys s → HasScout s name v → IsClosedInBox sys v.seen →
    CoreStep sys s event reply t → t.tiles ≡ s.tiles

-- a scout's own tiles are those that its numbers have placed
abbrev pub OwnTilesAreOfItsNumbers : Type 0
OwnTilesAreOfItsNumbers = (sys : TileSystem) (s : CoreState) (name : ℕ) (v : ScoutState) (t : PlacedTile) →
    CoreInvariant sys s → HasScout s name v → Contains v.mine t ↔ (Contains s.tiles t × Owns v.owned t.placer)

-- what two scouts have seen at a site is the same
abbrev pub ScoutsAgree : Type 0
ScoutsAgree = (sys : TileSystem) (s : CoreState) (a b : ℕ) (v w : ScoutState) (m : Site) (t u : TypeId) →
    CoreInvariant sys s → HasScout s a v → HasScout s b w →
    tile_at v.seen m ≡ Some t → tile_at w.seen m ≡ Some u → t ≡ u
