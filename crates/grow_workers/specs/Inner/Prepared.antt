-- What a growth begins with, and what it has come to in the end.
use Rattle.std.specs.Prelude.{◌≡◌, ℕ, ◌≤◌, ◌-◌, ◌^◌, List, [], length}
use Rattle.atam.specs.Placements.{SamePlacements}
use Rattle.atam.specs.TileSystem.{TileSystem}
use Rattle.assembly.specs.Grids.{TileGrid}
use Rattle.grow_core.specs.Steps.{IsScoutOf}
use Rattle.site_table.specs.Seats.{IsSeatOf, SeatValue}
use Rattle.grow_workers.specs.declared.prepared.Prepared.{Prepared}
use Rattle.grow_workers.specs.Workers.{GrewOn}

-- a table of the system, the seat that owns all numbers and has seen the seeds alone, and a grid of these
pub record IsPrepared (sys : TileSystem) (prepared : Prepared) : Type 0 where
  pub system : prepared.table.sys ≡ sys
  pub seat : IsSeatOf prepared.table prepared.seat
  pub scout : IsScoutOf (2 ^ 64 - 1) sys.seeds [] prepared.seat.scout
  pub area : prepared.seen.area ≡ sys.area
  pub seeds : SamePlacements sys.seeds prepared.seen.tiles

-- so many workers have made this of a seat that owned all numbers and had won nothing
pub record GrewWhole (sys : TileSystem) (workers : ℕ) (seat : SeatValue) (grid : TileGrid) : Type 0 where
  pub old : SeatValue
  pub start : TileGrid
  pub wins : List ℕ
  pub owned : old.scout.owned ≡ 2 ^ 64 - 1
  pub mine : old.scout.mine ≡ []
  pub grew : GrewOn sys old start seat grid wins
  pub count : length wins ≡ workers
  pub few : workers ≤ 16
