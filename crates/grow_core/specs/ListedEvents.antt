-- Each change of listed scouts is one event of the core, between the states in which they have their names.
use Rattle.std.specs.Prelude.{◌≡◌, ◌≢◌, ℕ, min, List, [], ◌∷◌, ◌++◌, Option, Some, None, Ok, slice_set}
use Rattle.atam.specs.declared.site.Site.{Site}
use Rattle.atam.specs.declared.place.TypeId.{TypeId}
use Rattle.atam.specs.Sites.{InBox}
use Rattle.atam.specs.TileSystem.{TileSystem, IsValid}
use Rattle.atam.specs.Placements.{tile_at}
use Rattle.grow_core.specs.declared.placed_tile.PlacedTile.{PlacedTile}
use Rattle.atam.specs.declared.event.Event.{Event}
use Rattle.atam.specs.declared.event.Event.TheVariants.{Look, Claim, Split, Join}
use Rattle.atam.specs.declared.event.Seen.{Seen}
use Rattle.atam.specs.declared.event.Seen.TheVariants.{Saw, Won, Held, Divided, Joined}
use Rattle.grow_core.specs.Core.{ScoutState, scout_at, least, greatest, OwnsTwoOrMore, state_of, places, GrowthInvariant}
use Rattle.grow_core.specs.Steps.{place, won_tile, Sees, Wins, IsKeptPart, IsGivenPart, IsUnion, Supports, CoreStep}
use Rattle.grow_core.specs.Listed.{by_name}

-- the tiles and scouts come from the one to the other by an event with this answer
abbrev pub IsEventOfListed : TileSystem → List PlacedTile → List (Option ScoutState) → Event → Seen → List PlacedTile → List (Option ScoutState) → Type 0
IsEventOfListed sys tiles scouts event answer later new =
    CoreStep sys (state_of tiles (by_name scouts)) event (Ok answer) (state_of later (by_name new))

abbrev pub EmptyLookIsEvent : Type 0
EmptyLookIsEvent = (sys : TileSystem) (tiles : List PlacedTile) (scouts : List (Option ScoutState)) (a : ℕ) (v : ScoutState) (m : Site) →
    GrowthInvariant sys tiles scouts → scout_at scouts a ≡ Some v → InBox sys.area m →
    tile_at (places tiles) m ≡ None →
    IsEventOfListed sys tiles scouts (Look (least v.owned) m) (Saw None) tiles scouts

abbrev pub LookIsEvent : Type 0
LookIsEvent = (sys : TileSystem) (tiles : List PlacedTile) (scouts : List (Option ScoutState)) (a : ℕ) (v w : ScoutState) (m : Site) (t : TypeId) →
    GrowthInvariant sys tiles scouts → scout_at scouts a ≡ Some v → InBox sys.area m →
    tile_at (places tiles) m ≡ Some t → Sees v (place m t) w →
    IsEventOfListed sys tiles scouts (Look (least v.owned) m) (Saw (Some t)) tiles (slice_set scouts a (Some w))

abbrev pub WonClaimIsEvent : Type 0
WonClaimIsEvent = (sys : TileSystem) (tiles : List PlacedTile) (scouts : List (Option ScoutState)) (a : ℕ) (v w : ScoutState) (m : Site) (t : TypeId) →
    IsValid sys → GrowthInvariant sys tiles scouts → scout_at scouts a ≡ Some v → InBox sys.area m → Supports sys v m t →
    tile_at (places tiles) m ≡ None → Wins v (place m t) w →
    IsEventOfListed sys tiles scouts (Claim (least v.owned) m t) Won (tiles ++ won_tile v m t ∷ []) (slice_set scouts a (Some w))

abbrev pub LostClaimIsEvent : Type 0
LostClaimIsEvent = (sys : TileSystem) (tiles : List PlacedTile) (scouts : List (Option ScoutState)) (a : ℕ) (v w : ScoutState) (m : Site) (t u : TypeId) →
    GrowthInvariant sys tiles scouts → scout_at scouts a ≡ Some v → InBox sys.area m → Supports sys v m t →
    tile_at (places tiles) m ≡ Some u → Sees v (place m u) w →
    IsEventOfListed sys tiles scouts (Claim (least v.owned) m t) (Held u) tiles (slice_set scouts a (Some w))

-- the new scout comes last
abbrev pub SplitIsEvent : Type 0
SplitIsEvent = (sys : TileSystem) (tiles : List PlacedTile) (scouts : List (Option ScoutState)) (a : ℕ) (v w x : ScoutState) →
    GrowthInvariant sys tiles scouts → scout_at scouts a ≡ Some v →
    OwnsTwoOrMore v.owned → IsKeptPart v w → IsGivenPart v x →
    IsEventOfListed sys tiles scouts (Split (least v.owned)) (Divided (greatest v.owned)) tiles (slice_set scouts a (Some w) ++ Some x ∷ [])

-- the joined scout stands where the first one stood
abbrev pub JoinIsEvent : Type 0
JoinIsEvent = (sys : TileSystem) (tiles : List PlacedTile) (scouts : List (Option ScoutState)) (a b : ℕ) (v w x : ScoutState) →
    GrowthInvariant sys tiles scouts → scout_at scouts a ≡ Some v → scout_at scouts b ≡ Some w → a ≢ b → IsUnion v w x →
    IsEventOfListed sys tiles scouts (Join (least v.owned) (least w.owned)) (Joined (min (least v.owned) (least w.owned)))
    tiles (slice_set (slice_set scouts a (Some x)) b None)
