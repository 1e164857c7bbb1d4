-- The order of rows that are shared out among workers.
use Rattle.std.specs.Prelude.{ℕ, zero, suc, ◌*◌, List, [], Result, IfOk}
use Rattle.atam.specs.declared.place.Place.{Place}
use Rattle.tile_system.specs.declared.memory.NoMemory.{NoMemory}
use Rattle.atam.specs.Sites.{width_of}
use Rattle.atam.specs.TileSystem.{TileSystem}
use Rattle.assembly.specs.Grids.{TileGrid}
use Rattle.replay_order.specs.Inner.Spans.{IsListedBehind}

-- the first worker begins with the seeds
abbrev pub begun_by : TileSystem → ℕ → List Place
begun_by sys zero = sys.seeds
begun_by sys (suc worker) = []

-- what a worker has listed of its rows, from the one to before the other, if it had memory for it
abbrev pub ListsRows : TileSystem → TileGrid → ℕ → ℕ → ℕ → Result (List Place) NoMemory → Type 0
ListsRows sys grid worker start end listed = IfOk listed (IsListedBehind sys grid.tiles (start * width_of sys.area) (end * width_of sys.area) (begun_by sys worker))
