-- `watch`: frames of a growth that are taken while it runs, and then what the system grew into.
use Rattle.tile_text.specs.SystemText.{ReadsAny}
use Rattle.std.specs.Prelude.{◌≡◌, ℕ, Bool, List, Option, Some}
use Rattle.atam.specs.TileSystem.{TileSystem}
use Rattle.site_table.specs.Seats.{GrownValue}
use Rattle.watch_frames.specs.FrameText.{IsWatchAnswer}
use Rattle.watch_frames.specs.Watched.{GrewBesideWatcher}
use Rattle.tilebench.specs.Commands.Grow.{IsGrowthText}
use Rattle.tilebench.specs.Inputs.{IsAlone}

-- The input is the text of one system, which so many workers grew beside a watcher. What it grew into is handed out; the text is that of so many frames of it, and behind the line `grown` that of the
-- growth.
pub record TellsWatchedGrowth (workers frames : ℕ) (grown : Option GrownValue) (input : List ℕ) (is_yes : Bool) (text : List ℕ) : Type 0 where
  pub sys : TileSystem
  pub read : IsAlone ReadsAny input sys
  pub table : GrownValue
  pub handed_out : grown ≡ Some table
  pub grew : GrewBesideWatcher sys workers table
  pub told : IsWatchAnswer (IsGrowthText sys table is_yes) sys frames table.grid.tiles text
