-- What workers share, what each begins with, and what it leaves.
use Rattle.std.specs.Prelude.{◌≡◌, ℕ, ◌≤◌, ◌<◌, true, List, [], ◌∷◌, ◌++◌, All, length, Option, unwrap_or, Result, IfOk, IfSome, slice_index_or}
use Rattle.atam.specs.declared.place.Place.{Place}
use Rattle.atam.specs.TileSystem.{TileSystem}
use Rattle.atam.specs.Placements.{SamePlacements}
use Rattle.atam.specs.Growth.{IsClosedInBox}
use Rattle.assembly.specs.Cells.{cell_count}
use Rattle.assembly.specs.Grids.{TileGrid}
use Rattle.tile_system.specs.declared.memory.NoMemory.{NoMemory}
use Rattle.type_cache.specs.Clean.{GrewExact}
use Rattle.type_index.specs.Indexes.{IsIndexOf}
use Rattle.frontier_seat.specs.Orders.{AreCanonicalClaims, LoggedClaims}
use Rattle.site_table.specs.Seats.{IsSeatOf, SeatValue}
use Rattle.grow_workers.specs.declared.goes.Goes.TheVariants.{InOrder}
use Rattle.grow_workers.specs.declared.leavings.Harvest.{Harvest}
use Rattle.grow_workers.specs.declared.leavings.Part.{Part}
use Rattle.grow_workers.specs.declared.shared.Shared.{Shared}
use Rattle.grow_workers.specs.declared.starts.Start.{Start}
use Rattle.grow_workers.specs.Inner.Wins.{IsParted, PartedGrowth}

-- the table and the index are the system's
pub record IsShared {G : Type 0} (shared : Shared G) : Type 0 where
  pub system : shared.table.now.sys ≡ shared.sys.now
  pub types : IsIndexOf shared.sys.now shared.types.now

-- a seat of the table, and a grid of what it has seen
pub record HasSeen {G : Type 0} (shared : Shared G) (seat : SeatValue) (grid : TileGrid) : Type 0 where
  pub at_table : IsSeatOf shared.table.now seat
  pub area : grid.area ≡ shared.sys.now.area
  pub seen : SamePlacements seat.scout.seen grid.tiles

-- growth in canonical order begins with the seeds alone
abbrev pub BeginsAt : {G : Type 0} → Shared G → TileGrid → Type 0
BeginsAt shared seen = shared.goes ≡ InOrder → SamePlacements shared.sys.now.seeds seen.tiles

-- an empty log with room for the whole box, where the seeds alone were seen
pub record BeginsLog (sys : TileSystem) (seen : TileGrid) (log : LoggedClaims) : Type 0 where
  pub none : log.numbers ≡ []
  pub in_order : log.in_order ≡ true
  pub room : cell_count sys.area ≤ log.room
  pub start : SamePlacements sys.seeds seen.tiles

-- the log of claims whose tiles, where they came in order, are the canonical sequence of these tiles behind the seeds, and came clean where it says so
pub record IsOrderLog (sys : TileSystem) (tiles : List Place) (log : LoggedClaims) : Type 0 where
  pub order : log.in_order ≡ true → AreCanonicalClaims sys tiles log.numbers
  pub clean : log.in_order ≡ true → log.clean ≡ true → GrewExact sys tiles

-- so it is with the tiles of a grid that is closed in the box
pub record IsLogOf (sys : TileSystem) (grid : TileGrid) (log : LoggedClaims) : Type 0 where
  pub closed : IsClosedInBox sys grid.tiles
  pub orders : IsOrderLog sys grid.tiles log

-- a worker's seat and grid, and the log of one that went on until the box was closed
pub record IsSeenPart {G : Type 0} (shared : Shared G) (part : Part) : Type 0 where
  pub seen : HasSeen shared part.seat part.grid
  pub log : IfSome part.log (IsLogOf shared.sys.now part.grid)

-- what a team has made of a seat and a grid
abbrev pub TeamGrew : TileSystem → SeatValue → TileGrid → Harvest → Type 0
TeamGrew sys old start team = PartedGrowth sys old start team.part.seat team.part.grid team.part.won team.others.items

-- the grid that a worker begins with: the one that it is given, or else one of the seeds, which it makes
abbrev pub start_grid : TileSystem → Option TileGrid → TileGrid
start_grid sys given = unwrap_or given (record { area = sys.area; tiles = sys.seeds })

-- one of the workers begins with this
pub record IsStart {G : Type 0} (shared : Shared G) (start : Start) : Type 0 where
  pub worker : start.worker < shared.workers.count
  pub seen : HasSeen shared start.seat (start_grid shared.sys.now start.seen)
  pub begins : BeginsAt shared (start_grid shared.sys.now start.seen)

-- and leaves that
pub record IsWorkOf {G : Type 0} (shared : Shared G) (start : Start) (part : Part) : Type 0 where
  pub left : IsSeenPart shared part
  pub grew : PartedGrowth shared.sys.now start.seat (start_grid shared.sys.now start.seen) part.seat part.grid part.won []

-- the seats of these workers, each parted off from what was left of a seat, and what is left in the end
abbrev pub ArePartedOff : SeatValue → List Start → SeatValue → Type 0
ArePartedOff seat [] kept = seat ≡ kept
ArePartedOff seat (start ∷ others) kept = (rest : SeatValue) × IsParted seat rest start.seat × ArePartedOff rest others kept

-- A seat is parted among all workers, of whom worker 0 comes last and has what is left. Each has a grid of its own, with the same tiles.
pub record AreStartsOf (sys : TileSystem) (seat : SeatValue) (grid : TileGrid) (starts : List Start) : Type 0 where
  pub others : List Start
  pub first : Start
  pub all : starts ≡ others ++ first ∷ []
  pub parted : ArePartedOff seat others first.seat
  pub grids : All (λ start. SamePlacements grid.tiles (start_grid sys start.seen).tiles) starts

-- each worker's part, unless there was no memory
pub record AreWorksOf {G : Type 0} (shared : Shared G) (starts : List Start) (done : List (Result Part NoMemory)) : Type 0 where
  pub count : length done ≡ length starts
  pub each : (i : ℕ) (start : Start) (part : Result Part NoMemory) → i < length starts → IfOk (slice_index_or done i part) (IsWorkOf shared (slice_index_or starts i start))
