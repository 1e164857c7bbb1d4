-- A seat that only looks, and what it has seen.
use Rattle.std.specs.Prelude.{◌≡◌, ℕ, ◌≤◌, length}
use Rattle.atam.specs.Placements.{HasDistinctSites, IsPartOf, SamePlacements}
use Rattle.atam.specs.TileSystem.{TileSystem}
use Rattle.atam.specs.Assembly.{Fits}
use Rattle.assembly.specs.Cells.{cell_count}
use Rattle.assembly.specs.Grids.{TileGrid}
use Rattle.site_table.specs.Seats.{SeatValue, GoesOn}
use Rattle.watch_frames.specs.Frames.{FrameList, AreFrames}
use Rattle.watch_frames.specs.Inner.Listing.{ListingValue, AtRest}

-- a seat, what it has seen, the frames so far, and how many there are to be
pub record WatcherValue : Type 0 where
  pub seat : SeatValue
  pub seen : TileGrid
  pub frames : FrameList
  pub many : ℕ

-- the grid, over the box of the system, is what the seat has seen
pub record HasSeen (sys : TileSystem) (seat : SeatValue) (seen : TileGrid) : Type 0 where
  pub system : seat.sys ≡ sys
  pub area : seen.area ≡ sys.area
  pub same : SamePlacements seat.scout.seen seen.tiles
  pub fits : Fits sys seen.tiles

-- The seat goes on and has won nothing. What was seen stays seen.
pub record LooksOn (sys : TileSystem) (old : SeatValue) (before : TileGrid) (new : SeatValue) (after : TileGrid) : Type 0 where
  pub goes : GoesOn old new
  pub mine : new.scout.mine ≡ old.scout.mine
  pub kept : IsPartOf before.tiles after.tiles
  pub seen : HasSeen sys new after

-- the seat goes on and has won nothing, and all frames were taken
pub record HasWatched (old new : WatcherValue) : Type 0 where
  pub goes : GoesOn old.seat new.seat
  pub mine : new.seat.scout.mine ≡ old.seat.scout.mine
  pub taken : length new.frames.counts ≡ old.many

-- the frames are of what was seen, and there is room for the others
pub record IsWatching (sys : TileSystem) (w : WatcherValue) (listing : ListingValue) : Type 0 where
  pub seen : HasSeen sys w.seat w.seen
  pub are : AreFrames sys w.frames.places w.frames.counts
  pub part : IsPartOf w.frames.places w.seen.tiles
  pub distinct : HasDistinctSites w.frames.places
  pub rest : AtRest sys w.frames.places listing
  pub room : cell_count sys.area ≤ w.frames.room
  pub most : w.many ≤ w.frames.most
  pub few : w.many ≤ 1000
