-- What contracts see of a table, of a seat and of what is grown.
use Rattle.std.specs.Prelude.{◌≡◌, ℕ, ◌-◌, ◌<◌, ◌^◌, List, ◌++◌, All, None, length, slice_index}
use Rattle.atomic_table.specs.Seated.{TableId}
use Rattle.atam.specs.declared.site.Site.{Site}
use Rattle.atam.specs.declared.place.TypeId.{TypeId}
use Rattle.atam.specs.declared.place.Place.{Place}
use Rattle.atam.specs.Sites.{InBox}
use Rattle.atam.specs.TileSystem.{TileSystem}
use Rattle.atam.specs.Placements.{SamePlacements, HasDistinctSites, IsPartOf, tile_at}
use Rattle.atam.specs.Growth.{IsProducible}
use Rattle.assembly.specs.Grids.{TileGrid}
use Rattle.grow_core.specs.declared.placed_tile.PlacedTile.{PlacedTile}
use Rattle.grow_core.specs.Core.{ScoutState, Owns, places, placed_by, IsHistory, ScoutInvariant}
use Rattle.grow_core.specs.Steps.{place, Sees, Wins}
use Rattle.site_table.specs.declared.table.Claimed.{Claimed}
use Rattle.site_table.specs.declared.table.Claimed.TheVariants.{Won, Held}

-- which table it is, and its system
pub record TableValue : Type 0 where
  pub table : TableId
  pub sys : TileSystem

-- the table of a seat, its system, and the scout that it is
pub record SeatValue : Type 0 where
  pub table : TableId
  pub sys : TileSystem
  pub scout : ScoutState

-- the seat is one of the table's
pub record IsSeatOf (t : TableValue) (s : SeatValue) : Type 0 where
  pub table : s.table ≡ t.table
  pub sys : s.sys ≡ t.sys

-- the seat goes on at its table, with the same numbers
pub record GoesOn (old new : SeatValue) : Type 0 where
  pub table : new.table ≡ old.table
  pub sys : new.sys ≡ old.sys
  pub owned : new.scout.owned ≡ old.scout.owned

-- what a claim answers, and what it makes of the scout
abbrev pub IsClaimOf : ScoutState → Site → TypeId → Claimed → ScoutState → Type 0
IsClaimOf v m tile Won w = (tile_at v.seen m ≡ None) × Wins v (place m tile) w
IsClaimOf v m tile (Held there) w = Sees v (place m there) w

-- the type that stands at the site after a claim for a type
abbrev pub holder : TypeId → Claimed → TypeId
holder tile Won = tile
holder tile (Held there) = there

-- some producible assembly in the box has these places among its own
pub record IsPartOfGrowth (sys : TileSystem) (seen : List Place) : Type 0 where
  pub tiles : List Place
  pub producible : IsProducible sys tiles
  pub inside : All (λ p. InBox sys.area p.site) tiles
  pub part : IsPartOf seen tiles

-- grown tiles, and how many of them each number placed
pub record GrownValue : Type 0 where
  pub grid : TileGrid
  pub won : List ℕ

-- What a table leaves beside a seat when it is closed.
pub record Closes (sys : TileSystem) (v : ScoutState) (grown : GrownValue) : Type 0 where
  pub area : grown.grid.area ≡ sys.area
  pub distinct : HasDistinctSites grown.grid.tiles
  pub inside : All (λ p. InBox sys.area p.site) grown.grid.tiles
  pub producible : IsProducible sys grown.grid.tiles
  pub seen : IsPartOf v.seen grown.grid.tiles
  -- One legal sequence has just the grid's placements, and the seat's scout is one of it: it lists the places of each number of the seat in the order of its mine.
  pub tiles : List PlacedTile
  pub history : IsHistory sys tiles
  pub same : SamePlacements (places tiles) grown.grid.tiles
  pub scout : ScoutInvariant sys tiles v
  pub numbers : length grown.won ≡ 64
  pub counts : (n : ℕ) → n < 64 → slice_index grown.won n ≡ length (placed_by n tiles)
  -- a number's count is that of the own tiles of the seat that owns it
  pub own_counts : (n : ℕ) → Owns v.owned n → slice_index grown.won n ≡ length (placed_by n v.mine)
  -- who owns all numbers has won all tiles but the seeds
  pub whole : v.owned ≡ 2 ^ 64 - 1 → SamePlacements (sys.seeds ++ places v.mine) grown.grid.tiles
