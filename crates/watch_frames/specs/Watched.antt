-- What is left of a growth that was watched.
use Rattle.std.specs.Prelude.{◌≡◌, ℕ, ◌+◌, List, length, slice_index}
use Rattle.atam.specs.declared.place.Place.{Place}
use Rattle.atam.specs.Placements.{IsPartOf}
use Rattle.atam.specs.TileSystem.{TileSystem}
use Rattle.atam.specs.Growth.{IsFullGrowth}
use Rattle.site_table.specs.Seats.{GrownValue}
use Rattle.grow_workers.specs.Workers.{WorkersPlaced}
use Rattle.watch_frames.specs.Frames.{FrameList, AreFrames}

-- so many frames, and a full growth that has the places of the last one
pub record IsWatched (sys : TileSystem) (many : ℕ) (places : List Place) (counts : List ℕ) (tiles : List Place) : Type 0 where
  pub frames : AreFrames sys places counts
  pub taken : length counts ≡ many
  pub part : IsPartOf places tiles
  pub full : IsFullGrowth sys tiles

-- What so many workers grew beside a watcher, who counts as worker 1, and so has the number 63, but
-- placed none. Of those who grow worker 0 has 0 then, and worker w from 1 on has 63 - w.
pub record GrewBesideWatcher (sys : TileSystem) (workers : ℕ) (out : GrownValue) : Type 0 where
  pub placed : WorkersPlaced sys (workers + 1) out
  pub watcher : slice_index out.won 63 ≡ 0

-- what `watch` leaves
pub record IsWatchedGrowth (sys : TileSystem) (workers many : ℕ) (frames : FrameList) (out : GrownValue) : Type 0 where
  pub watched : IsWatched sys many frames.places frames.counts out.grid.tiles
  pub grew : GrewBesideWatcher sys workers out
