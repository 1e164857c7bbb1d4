-- The state of the growth core, and what holds of it after every event.
-- The tiles are listed in the order in which they were placed, so that the list is itself one legal history.
use Rattle.std.specs.Prelude.{◌≡◌, ◌≢◌, ℕ, ◌<◌, ◌-◌, ◌^◌, ◌==◌, List, Option, Some, None, length, map, filter, slice_get, Contains, All, AllPairs}
use Rattle.std.specs.Option.{unwrap_or}
use Rattle.std.specs.Int.{bit_at, trailing_zeros, leading_zeros, w64}
use Rattle.atam.specs.declared.place.Place.{Place}
use Rattle.atam.specs.Sites.{InBox}
use Rattle.atam.specs.TileSystem.{TileSystem}
use Rattle.atam.specs.Placements.{IsPartOf, HasDistinctSites}
use Rattle.atam.specs.Growth.{IsLegal}
use Rattle.grow_core.specs.declared.placed_tile.PlacedTile.{PlacedTile}

-- A scout's numbers as bits, the assembly that it has seen, and its own tiles: those that it, or a scout joined into it, has won.
pub record ScoutState : Type 0 where
  pub owned : ℕ
  pub seen : List Place
  pub mine : List PlacedTile

-- there is one entry for each name from 0 to 63, which is none where no scout of this name lives
pub record CoreState : Type 0 where
  pub tiles : List PlacedTile
  pub scouts : List (Option ScoutState)

abbrev pub state_of : List PlacedTile → List (Option ScoutState) → CoreState
state_of tiles scouts = record { tiles = tiles; scouts = scouts }

-- the scout at an index of the list; in a state of the core that is the scout with this name
abbrev pub scout_at : List (Option ScoutState) → ℕ → Option ScoutState
scout_at scouts a = unwrap_or (slice_get scouts a) None

-- the number n is one of a scout's numbers
abbrev pub Owns : ℕ → ℕ → Type 0
Owns owned n = bit_at owned n ≡ 1

-- a scout's name, and the number that it gives away
abbrev pub least : ℕ → ℕ
least owned = trailing_zeros w64 owned

abbrev pub greatest : ℕ → ℕ
greatest owned = 63 - leading_zeros w64 owned

abbrev pub OwnsTwoOrMore : ℕ → Type 0
OwnsTwoOrMore owned = least owned ≢ greatest owned

abbrev pub places : List PlacedTile → List Place
places tiles = map (λ t. t.place) tiles

-- the tiles that a number placed, in order
abbrev pub placed_by : ℕ → List PlacedTile → List PlacedTile
placed_by n tiles = filter (λ t. t.placer == n) tiles

-- no site has two of the tiles
abbrev pub HasDistinctTiles : List PlacedTile → Type 0
HasDistinctTiles tiles = AllPairs (λ t u. t.place.site ≢ u.place.site) tiles

-- a seed has the placer 65535, and every other tile one from 0 to 63
pub record IsNumbered (sys : TileSystem) (t : PlacedTile) : Type 0 where
  pub seed : Contains sys.seeds t.place → t.placer ≡ 65535
  pub other : ¬ Contains sys.seeds t.place → t.placer < 64

-- the tiles are one legal history: a legal sequence with distinct sites in the box, each tile with its placer
pub record IsHistory (sys : TileSystem) (tiles : List PlacedTile) : Type 0 where
  pub legal : IsLegal sys (places tiles)
  pub distinct : HasDistinctSites (places tiles)
  pub inside : All (λ t. InBox sys.area t.place.site) tiles
  pub numbered : All (IsNumbered sys) tiles

-- the invariant of one scout beside the tiles
pub record ScoutInvariant (sys : TileSystem) (tiles : List PlacedTile) (v : ScoutState) : Type 0 where
  pub some_number : 0 < v.owned
  pub numbers : v.owned < 2 ^ 64
  pub seeds : IsPartOf sys.seeds v.seen
  pub part : IsPartOf v.seen (places tiles)
  pub distinct : HasDistinctSites v.seen
  pub mine_seen : (t : PlacedTile) → Contains v.mine t → Contains v.seen t.place
  pub mine_owned : (t : PlacedTile) → Contains v.mine t → Owns v.owned t.placer
  pub mine_distinct : HasDistinctTiles v.mine
  -- the wins of each number are listed in the order in which they were won
  pub in_order : (n : ℕ) → Owns v.owned n → placed_by n tiles ≡ placed_by n v.mine

-- the invariant of the tiles, and of scouts that are listed in whatever order
pub record GrowthInvariant (sys : TileSystem) (tiles : List PlacedTile) (scouts : List (Option ScoutState)) : Type 0 where
  pub history : IsHistory sys tiles
  pub each : (a : ℕ) (v : ScoutState) → scout_at scouts a ≡ Some v → ScoutInvariant sys tiles v
  -- no two scouts share a number
  pub apart : (a b : ℕ) (v w : ScoutState) → scout_at scouts a ≡ Some v → scout_at scouts b ≡ Some w →
      a ≢ b → (n : ℕ) → Owns v.owned n → ¬ Owns w.owned n

-- there is an entry for each name, and each scout stands at its own
pub record AreListedByName (scouts : List (Option ScoutState)) : Type 0 where
  pub names : length scouts ≡ 64
  pub own_name : (a : ℕ) (v : ScoutState) → scout_at scouts a ≡ Some v → least v.owned ≡ a

-- the invariant of the core: that of its tiles and scouts, and each scout stands at its name
pub record CoreInvariant (sys : TileSystem) (s : CoreState) : Type 0 where
  pub growth : GrowthInvariant sys s.tiles s.scouts
  pub named : AreListedByName s.scouts
