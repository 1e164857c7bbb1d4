-- Rounds of a growth.
use Rattle.std.specs.Prelude.{◌≡◌, ◌⊎◌, ℕ, ◌≤◌, ◌<◌, ◌+◌, List, All, length, Result, IfOk, slice_index, slice_index_or}
use Rattle.atam.specs.declared.place.Place.{Place}
use Rattle.atam.specs.TileSystem.{TileSystem}
use Rattle.atam.specs.Placements.{SamePlacements, HasDistinctSites, IsPartOf}
use Rattle.atam.specs.Growth.{IsClosedInBox}
use Rattle.assembly.specs.Grids.{TileGrid}
use Rattle.tile_system.specs.declared.memory.NoMemory.{NoMemory}
use Rattle.site_table.specs.Seats.{GoesOn, SeatValue}
use Rattle.grow_workers.specs.Workers.{WorkersWin}
use Rattle.grow_workers.specs.declared.leavings.Part.{Part}
use Rattle.grow_workers.specs.declared.rounds.Stage.{Stage}
use Rattle.grow_workers.specs.declared.shared.Shared.{Shared}
use Rattle.grow_workers.specs.declared.starts.Start.{Start}
use Rattle.grow_workers.specs.Inner.Sharing.{HasSeen, IsWorkOf, start_grid}

-- the box is closed, or so many of its sites are taken
abbrev pub IsFar : TileSystem → ℕ → TileGrid → Type 0
IsFar sys n grid = IsClosedInBox sys grid.tiles ⊎ (n ≤ length grid.tiles)

-- each number of one list is those of two others at its place, added up
pub record AddsUp (one other sums : List ℕ) : Type 0 where
  pub count : length sums ≡ length one
  pub each : (i : ℕ) → i < length one → slice_index sums i ≡ slice_index one i + slice_index other i

-- what workers make of a seat in some rounds: it goes on, has seen what its grid has, and each has won so many tiles
pub record WentOn (sys : TileSystem) (old : SeatValue) (start : TileGrid) (new : SeatValue) (grid : TileGrid) (wins : List ℕ) : Type 0 where
  pub seat : GoesOn old new
  pub area : grid.area ≡ sys.area
  pub seen : SamePlacements new.scout.seen grid.tiles
  pub kept : IsPartOf start.tiles grid.tiles
  pub workers_win : WorkersWin old.scout.mine new.scout.mine old.scout.owned wins

-- a stage of a growth: a seat of the table, what it has seen, and a number for each worker, of tiles that the seat has
pub record IsStage {G : Type 0} (shared : Shared G) (stage : Stage) : Type 0 where
  pub seen : HasSeen shared stage.seat stage.grid
  pub count : length stage.wins.items ≡ shared.workers.count
  pub few : All (λ n. n ≤ length stage.seat.scout.mine) stage.wins.items

-- a round leads from one stage to another, and each worker's wins in it are added; the box is closed then, or has at least as many more tiles as a worker may claim
pub record GoesRound {G : Type 0} (shared : Shared G) (old new : Stage) : Type 0 where
  pub wins : List ℕ
  pub went : WentOn shared.sys.now old.seat old.grid new.seat new.grid wins
  pub count : length wins ≡ shared.workers.count
  pub added : AddsUp old.wins.items wins new.wins.items
  pub far : IsFar shared.sys.now (length old.grid.tiles + 4096) new.grid

-- what one of the workers leaves of its start in a round: the box is closed to it, or it has made all its claims, and each added a site
pub record IsRoundOf {G : Type 0} (shared : Shared G) (start : Start) (part : Part) : Type 0 where
  pub work : IsWorkOf shared start part
  pub far : (tiles : List Place) → HasDistinctSites tiles → SamePlacements tiles (start_grid shared.sys.now start.seen).tiles → IsFar shared.sys.now (length tiles + 4096) part.grid

-- each worker's part in a round, unless there was no memory
pub record AreRoundsOf {G : Type 0} (shared : Shared G) (starts : List Start) (done : List (Result Part NoMemory)) : Type 0 where
  pub count : length done ≡ length starts
  pub each : (i : ℕ) (start : Start) (part : Result Part NoMemory) → i < length starts → IfOk (slice_index_or done i part) (IsRoundOf shared (slice_index_or starts i start))
