-- Workers, their numbers and what they win.
use Rattle.std.specs.Prelude.{◌≡◌, ◌≢◌, ℕ, zero, suc, ◌-◌, ◌^◌, ◌<◌, ◌+◌, ◌≤◌, true, List, ◌++◌, All, AllPairs, length, slice_index, sum}
use Rattle.atam.specs.TileSystem.{TileSystem}
use Rattle.atam.specs.Placements.{SamePlacements, IsPartOf}
use Rattle.atam.specs.declared.place.Place.{Place}
use Rattle.atam.specs.Growth.{IsClosedInBox, IsFullGrowth}
use Rattle.atam.specs.Canonical.{IsCanonical}
use Rattle.assembly.specs.Grids.{TileGrid}
use Rattle.grow_core.specs.declared.placed_tile.PlacedTile.{PlacedTile}
use Rattle.grow_core.specs.Core.{Owns, least, greatest, placed_by}
use Rattle.type_cache.specs.Clean.{CameExact}
use Rattle.site_table.specs.Seats.{SeatValue, GoesOn, GrownValue}
use Rattle.grow_workers.specs.declared.ordered.SeenOrder.{SeenOrder}

-- at least so many numbers are owned
pub record OwnsAtLeast (count owned : ℕ) : Type 0 where
  pub numbers : List ℕ
  pub many : count ≤ length numbers
  pub distinct : AllPairs (λ n k. n ≢ k) numbers
  pub all_owned : All (Owns owned) numbers

-- the greatest number, and the greatest ones below it
abbrev pub greatest_but : ℕ → ℕ → ℕ
greatest_but zero owned = greatest owned
greatest_but (suc k) owned = greatest_but k (owned - 2 ^ greatest owned)

-- of the numbers owned, worker 0 has the least, and worker w from 1 on the w-th greatest
abbrev pub owned_number : ℕ → ℕ → ℕ
owned_number zero owned = least owned
owned_number (suc w) owned = greatest_but w owned

-- so of all 64 numbers worker 0 has 0, and worker w from 1 on has 64 - w
abbrev pub worker_number : ℕ → ℕ
worker_number zero = 0
worker_number (suc w) = 63 - w

-- under this number so many tiles were won, after the old ones
pub record WinsUnder (old new : List PlacedTile) (n count : ℕ) : Type 0 where
  pub wins : List PlacedTile
  pub order : placed_by n new ≡ placed_by n old ++ wins
  pub many : length wins ≡ count

-- Each worker has won so many tiles under its number, and nothing was won under another one.
pub record WorkersWin (old new : List PlacedTile) (owned : ℕ) (wins : List ℕ) : Type 0 where
  pub each : (w : ℕ) → w < length wins → WinsUnder old new (owned_number w owned) (slice_index wins w)
  pub others : (n : ℕ) → Owns owned n → ((w : ℕ) → w < length wins → n ≢ owned_number w owned) → placed_by n new ≡ placed_by n old

-- What workers make of a seat: it goes on with the same numbers, and what it has seen, which holds what it had seen, is a grid that is closed in the box.
pub record GrewOn (sys : TileSystem) (old : SeatValue) (start : TileGrid) (new : SeatValue) (grid : TileGrid) (wins : List ℕ) : Type 0 where
  pub seat : GoesOn old new
  pub area : grid.area ≡ sys.area
  pub seen : SamePlacements new.scout.seen grid.tiles
  pub kept : IsPartOf start.tiles grid.tiles
  pub closed : IsClosedInBox sys grid.tiles
  pub workers_win : WorkersWin old.scout.mine new.scout.mine old.scout.owned wins

-- the canonical order of these tiles, each of which came clean, held by exactly the temperature, if it says so
pub record IsSeenOrder (sys : TileSystem) (tiles : List Place) (seen : SeenOrder) : Type 0 where
  pub canonical : IsCanonical sys tiles seen.order
  pub clean : seen.clean ≡ true → CameExact sys seen.order

-- In a table over the system's box so many workers placed all tiles but the seeds, under their
-- numbers alone.
pub record WorkersPlaced (sys : TileSystem) (workers : ℕ) (grown : GrownValue) : Type 0 where
  pub area : grown.grid.area ≡ sys.area
  pub numbers : length grown.won ≡ 64
  pub idle : (n : ℕ) → n < 64 → ((w : ℕ) → w < workers → n ≢ worker_number w) →
      slice_index grown.won n ≡ 0
  pub total : sum grown.won + length sys.seeds ≡ length grown.grid.tiles

-- what `grow` leaves: a full growth, whose tiles so many workers placed
pub record IsGrownBy (sys : TileSystem) (workers : ℕ) (grown : GrownValue) : Type 0 where
  pub full : IsFullGrowth sys grown.grid.tiles
  pub placed : WorkersPlaced sys workers grown
