-- Laws of the tiles, and of scouts that are listed in whatever order.
use Rattle.std.specs.Prelude.{◌≡◌, ◌≢◌, ◌↔◌, ℕ, List, [], ◌∷◌, ◌++◌, map, Option, Some, None, slice_set, Contains, ◌-◌, ◌^◌}
use Rattle.atam.specs.declared.site.Site.{Site}
use Rattle.atam.specs.declared.place.TypeId.{TypeId}
use Rattle.atam.specs.declared.place.Place.{Place}
use Rattle.atam.specs.Sites.{InBox}
use Rattle.atam.specs.TileSystem.{TileSystem, IsValid}
use Rattle.atam.specs.Placements.{SamePlacements, tile_at}
use Rattle.atam.specs.Growth.{IsClosedInBox}
use Rattle.grow_core.specs.declared.placed_tile.PlacedTile.{PlacedTile}
use Rattle.grow_core.specs.Core.{ScoutState, scout_at, least, OwnsTwoOrMore, state_of, places, GrowthInvariant, CoreInvariant}
use Rattle.grow_core.specs.Steps.{tile_of, IsScoutOf, Sees, Wins, IsKeptPart, IsGivenPart, IsUnion, Supports, HasScout}
use Rattle.grow_core.specs.Listed.{by_name}

-- the seeds, and one scout that has seen them and owns all numbers
abbrev pub FirstScoutHasInvariant : Type 0
FirstScoutHasInvariant = (sys : TileSystem) (v : ScoutState) → IsValid sys → IsScoutOf (2 ^ 64 - 1) sys.seeds [] v →
    GrowthInvariant sys (map (λ p. tile_of p 65535) sys.seeds) (Some v ∷ [])

-- a scout sees a tile that stands, by a look or by a claim that is lost
abbrev pub SeeingKeepsInvariant : Type 0
SeeingKeepsInvariant = (sys : TileSystem) (tiles : List PlacedTile) (scouts : List (Option ScoutState)) (a : ℕ) (v w : ScoutState) (p : Place) →
    GrowthInvariant sys tiles scouts → scout_at scouts a ≡ Some v →
    Contains (places tiles) p → Sees v p w →
    GrowthInvariant sys tiles (slice_set scouts a (Some w))

-- a scout wins a claim
abbrev pub WinningKeepsInvariant : Type 0
WinningKeepsInvariant = (sys : TileSystem) (tiles : List PlacedTile) (scouts : List (Option ScoutState)) (a : ℕ) (v w : ScoutState) (p : Place) →
    IsValid sys → GrowthInvariant sys tiles scouts → scout_at scouts a ≡ Some v →
    InBox sys.area p.site → Supports sys v p.site p.tile → tile_at (places tiles) p.site ≡ None → Wins v p w →
    GrowthInvariant sys (tiles ++ tile_of p (least v.owned) ∷ []) (slice_set scouts a (Some w))

-- a scout is divided: the new one comes to stand at any index, or last
abbrev pub SplitKeepsInvariant : Type 0
SplitKeepsInvariant = (sys : TileSystem) (tiles : List PlacedTile) (scouts : List (Option ScoutState)) (a k : ℕ) (v w x : ScoutState) →
    GrowthInvariant sys tiles scouts → scout_at scouts a ≡ Some v →
    OwnsTwoOrMore v.owned → IsKeptPart v w → IsGivenPart v x →
    GrowthInvariant sys tiles (slice_set (slice_set scouts a (Some w)) k (Some x))

abbrev pub SplitAtEndKeepsInvariant : Type 0
SplitAtEndKeepsInvariant = (sys : TileSystem) (tiles : List PlacedTile) (scouts : List (Option ScoutState)) (a : ℕ) (v w x : ScoutState) →
    GrowthInvariant sys tiles scouts → scout_at scouts a ≡ Some v →
    OwnsTwoOrMore v.owned → IsKeptPart v w → IsGivenPart v x →
    GrowthInvariant sys tiles (slice_set scouts a (Some w) ++ Some x ∷ [])

-- two scouts are joined to one, which comes to stand at any index
abbrev pub JoinKeepsInvariant : Type 0
JoinKeepsInvariant = (sys : TileSystem) (tiles : List PlacedTile) (scouts : List (Option ScoutState)) (a b k : ℕ) (v w x : ScoutState) →
    GrowthInvariant sys tiles scouts → scout_at scouts a ≡ Some v → scout_at scouts b ≡ Some w → a ≢ b →
    IsUnion v w x →
    GrowthInvariant sys tiles (slice_set (slice_set (slice_set scouts a None) b None) k (Some x))

-- a scout is left out
abbrev pub LeavingOneKeepsInvariant : Type 0
LeavingOneKeepsInvariant = (sys : TileSystem) (tiles : List PlacedTile) (scouts : List (Option ScoutState)) (a : ℕ) →
    GrowthInvariant sys tiles scouts → GrowthInvariant sys tiles (slice_set scouts a None)

-- where a scout has seen a closed assembly, that is all of the tiles
abbrev pub ListedClosedIsAll : Type 0
ListedClosedIsAll = (sys : TileSystem) (tiles : List PlacedTile) (scouts : List (Option ScoutState)) (a : ℕ) (v : ScoutState) →
    GrowthInvariant sys tiles scouts → scout_at scouts a ≡ Some v → IsClosedInBox sys v.seen →
    SamePlacements v.seen (places tiles)

-- and there is a tile at each site of the box where some scout may claim
abbrev pub NoClaimIsLeft : Type 0
NoClaimIsLeft = (sys : TileSystem) (tiles : List PlacedTile) (scouts : List (Option ScoutState)) (a b : ℕ) (v w : ScoutState) (m : Site) (t : TypeId) →
    IsValid sys → GrowthInvariant sys tiles scouts → scout_at scouts a ≡ Some v → IsClosedInBox sys v.seen →
    scout_at scouts b ≡ Some w → InBox sys.area m → Supports sys w m t → tile_at (places tiles) m ≢ None

-- the scouts make a state of the core, in which each has its name
abbrev pub ListedScoutsMakeState : Type 0
ListedScoutsMakeState = (sys : TileSystem) (tiles : List PlacedTile) (scouts : List (Option ScoutState)) →
    GrowthInvariant sys tiles scouts → CoreInvariant sys (state_of tiles (by_name scouts))

abbrev pub ScoutsOfStateAreListed : Type 0
ScoutsOfStateAreListed = (sys : TileSystem) (tiles : List PlacedTile) (scouts : List (Option ScoutState)) (v : ScoutState) →
    GrowthInvariant sys tiles scouts →
    HasScout (state_of tiles (by_name scouts)) (least v.owned) v ↔ ((a : ℕ) × (scout_at scouts a ≡ Some v))
