-- The start of the core, and its events as a relation: what is answered or refused, and the state afterwards.
use Rattle.std.specs.Prelude.{◌≡◌, ◌≢◌, ℕ, ◌<◌, ◌≤◌, ◌-◌, ◌^◌, ◌==◌, min, not, List, [], ◌∷◌, ◌++◌, map, filter, replicate, slice_set, bit_or, Some, None, Result, Ok, Err}
use Rattle.atam.specs.declared.site.Site.{Site}
use Rattle.atam.specs.declared.place.TypeId.{TypeId}
use Rattle.atam.specs.declared.place.Place.{Place}
use Rattle.atam.specs.Sites.{InBox}
use Rattle.atam.specs.TileSystem.{TileSystem}
use Rattle.atam.specs.Placements.{SamePlacements, HasDistinctSites, tile_at}
use Rattle.atam.specs.Assembly as model
use Rattle.grow_core.specs.declared.placed_tile.PlacedTile.{PlacedTile}
use Rattle.atam.specs.declared.event.Event.{Event}
use Rattle.atam.specs.declared.event.Event.TheVariants.{Look, Claim, Split, Join}
use Rattle.atam.specs.declared.event.Seen.{Seen}
use Rattle.atam.specs.declared.event.Seen.TheVariants.{Saw, Won, Held, Divided, Joined}
use Rattle.atam.specs.declared.event.CoreStop.{CoreStop}
use Rattle.atam.specs.declared.event.CoreStop.TheVariants.{NoSuchScout, NotSupported, OutsideBox, NoNumberLeft, NoMemory}
use Rattle.grow_core.specs.Core.{ScoutState, CoreState, scout_at, least, greatest, OwnsTwoOrMore, places, placed_by}

abbrev pub place : Site → TypeId → Place
place site tile = record { site = site; tile = tile }

abbrev pub tile_of : Place → ℕ → PlacedTile
tile_of p n = record { place = p; placer = n }

-- the scout with these numbers and own tiles, which has seen just these places, in whatever order
pub record IsScoutOf (numbers : ℕ) (tiles : List Place) (wins : List PlacedTile) (v : ScoutState) : Type 0 where
  pub owned : v.owned ≡ numbers
  pub seen : SamePlacements tiles v.seen
  pub distinct : HasDistinctSites v.seen
  pub mine : v.mine ≡ wins

-- the scout has seen a tile beside what it had seen
abbrev pub Sees : ScoutState → Place → ScoutState → Type 0
Sees v p w = IsScoutOf v.owned (v.seen ++ p ∷ []) v.mine w

-- and has won it, with its least number
abbrev pub Wins : ScoutState → Place → ScoutState → Type 0
Wins v p w = IsScoutOf v.owned (v.seen ++ p ∷ []) (v.mine ++ tile_of p (least v.owned) ∷ []) w

-- the own tiles of a scout once the number n is given away
abbrev pub kept_tiles : ℕ → List PlacedTile → List PlacedTile
kept_tiles n mine = filter (λ t. not (t.placer == n)) mine

-- what is left of a scout that has given its greatest number away, and who has that number
abbrev pub IsKeptPart : ScoutState → ScoutState → Type 0
IsKeptPart v w = IsScoutOf (v.owned - 2 ^ greatest v.owned) v.seen (kept_tiles (greatest v.owned) v.mine) w

abbrev pub IsGivenPart : ScoutState → ScoutState → Type 0
IsGivenPart v x = IsScoutOf (2 ^ greatest v.owned) v.seen (placed_by (greatest v.owned) v.mine) x

-- the scout with all that two had, of which the first one's tiles come first
abbrev pub IsUnion : ScoutState → ScoutState → ScoutState → Type 0
IsUnion v w x = IsScoutOf (bit_or v.owned w.owned) (v.seen ++ w.seen) (v.mine ++ w.mine) x

-- the seeds' tiles alone, and scout 0, which has seen the seeds and owns all numbers
pub record IsStart (sys : TileSystem) (s : CoreState) : Type 0 where
  pub tiles : s.tiles ≡ map (λ p. tile_of p 65535) sys.seeds
  pub first : ScoutState
  pub seeds : IsScoutOf (2 ^ 64 - 1) sys.seeds [] first
  pub scouts : s.scouts ≡ Some first ∷ replicate 63 None

-- the same state but for the scout with a name
abbrev pub with_scout : CoreState → ℕ → ScoutState → CoreState
with_scout s name v = record { tiles = s.tiles; scouts = slice_set s.scouts name (Some v) }

-- and with one tile more
abbrev pub with_tile : CoreState → PlacedTile → CoreState
with_tile s t = record { tiles = s.tiles ++ t ∷ []; scouts = s.scouts }

-- the scout with this name lives no longer
abbrev pub without_scout : CoreState → ℕ → CoreState
without_scout s name = record { tiles = s.tiles; scouts = slice_set s.scouts name None }

-- the scout that an event names, or that it names first
abbrev pub actor : Event → ℕ
actor (Look who site) = who
actor (Claim who site tile) = who
actor (Split who) = who
actor (Join into from) = into

abbrev pub HasScout : CoreState → ℕ → ScoutState → Type 0
HasScout s name v = scout_at s.scouts name ≡ Some v

abbrev pub LacksScout : CoreState → ℕ → Type 0
LacksScout s name = scout_at s.scouts name ≡ None

-- the tile that a scout wins at a site
abbrev pub won_tile : ScoutState → Site → TypeId → PlacedTile
won_tile v site tile = tile_of (place site tile) (least v.owned)

-- the pull on a type over what the scout has seen is enough
abbrev pub Supports : TileSystem → ScoutState → Site → TypeId → Type 0
Supports sys v site tile = sys.tau ≤ model.pull sys v.seen site tile

-- What an event does to a state, by its reply. Want of memory at a split is the one reply that the state does not tell.
pub data CoreStep (sys : TileSystem) (s : CoreState) : Event → Result Seen CoreStop → CoreState → Type 0 where
  -- refusals, which leave the state as it was
  no_such_scout : (event : Event) → LacksScout s (actor event) → CoreStep sys s event (Err NoSuchScout) s
  no_other_scout : (into from : ℕ) → LacksScout s from → CoreStep sys s (Join into from) (Err NoSuchScout) s
  same_scout : (into from : ℕ) → into ≡ from → CoreStep sys s (Join into from) (Err NoSuchScout) s
  looks_outside : (who : ℕ) (site : Site) (v : ScoutState) →
      HasScout s who v → ¬ InBox sys.area site →
      CoreStep sys s (Look who site) (Err OutsideBox) s
  claims_outside : (who : ℕ) (site : Site) (tile : TypeId) (v : ScoutState) →
      HasScout s who v → ¬ InBox sys.area site →
      CoreStep sys s (Claim who site tile) (Err OutsideBox) s
  unsupported : (who : ℕ) (site : Site) (tile : TypeId) (v : ScoutState) →
      HasScout s who v → InBox sys.area site → model.pull sys v.seen site tile < sys.tau →
      CoreStep sys s (Claim who site tile) (Err (NotSupported (model.pull sys v.seen site tile))) s
  one_number : (who : ℕ) (v : ScoutState) →
      HasScout s who v → ¬ OwnsTwoOrMore v.owned →
      CoreStep sys s (Split who) (Err NoNumberLeft) s
  no_memory : (who : ℕ) (v : ScoutState) →
      HasScout s who v → OwnsTwoOrMore v.owned →
      CoreStep sys s (Split who) (Err NoMemory) s
  -- answers
  saw_none : (who : ℕ) (site : Site) (v : ScoutState) →
      HasScout s who v → InBox sys.area site → tile_at (places s.tiles) site ≡ None →
      CoreStep sys s (Look who site) (Ok (Saw None)) s
  saw_tile : (who : ℕ) (site : Site) (there : TypeId) (v w : ScoutState) →
      HasScout s who v → InBox sys.area site → tile_at (places s.tiles) site ≡ Some there →
      Sees v (place site there) w →
      CoreStep sys s (Look who site) (Ok (Saw (Some there))) (with_scout s who w)
  won : (who : ℕ) (site : Site) (tile : TypeId) (v w : ScoutState) →
      HasScout s who v → InBox sys.area site → Supports sys v site tile →
      tile_at (places s.tiles) site ≡ None →
      Wins v (place site tile) w →
      CoreStep sys s (Claim who site tile) (Ok Won)
      (with_scout (with_tile s (won_tile v site tile)) who w)
  held : (who : ℕ) (site : Site) (tile there : TypeId) (v w : ScoutState) →
      HasScout s who v → InBox sys.area site → Supports sys v site tile →
      tile_at (places s.tiles) site ≡ Some there →
      Sees v (place site there) w →
      CoreStep sys s (Claim who site tile) (Ok (Held there)) (with_scout s who w)
  divided : (who : ℕ) (v w x : ScoutState) →
      HasScout s who v → OwnsTwoOrMore v.owned →
      IsKeptPart v w → IsGivenPart v x →
      CoreStep sys s (Split who) (Ok (Divided (greatest v.owned)))
      (with_scout (with_scout s who w) (greatest v.owned) x)
  joined : (into from : ℕ) (v w x : ScoutState) →
      HasScout s into v → HasScout s from w → into ≢ from →
      IsUnion v w x →
      CoreStep sys s (Join into from) (Ok (Joined (min into from)))
      (with_scout (without_scout (without_scout s into) from) (min into from) x)

-- events one after another, each with its reply
pub data CoreRun (sys : TileSystem) : CoreState → List (Event × Result Seen CoreStop) → CoreState → Type 0 where
  stopped : (s : CoreState) → CoreRun sys s [] s
  stepped : (s t u : CoreState) (event : Event) (reply : Result Seen CoreStop)
      (rest : List (Event × Result Seen CoreStop)) →
      CoreStep sys s event reply t → CoreRun sys t rest u →
      CoreRun sys s ((event, reply) ∷ rest) u
