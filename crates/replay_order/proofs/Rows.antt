-- The rows of workers, one behind the other.
use Rattle.std.proofs.Common.{◌≡◌, ◌≤◌, ◌*◌, ◌++◌, ℕ, suc, List, arith}
use Rattle.std.proofs.Math.Nat.{mul-le-mul_right, mul_comm}
use Rattle.atam.specs.declared.place.Place.{Place}
use Rattle.atam.specs.declared.area.BoxArea.{BoxArea}
use Rattle.atam.specs.Sites.{width_of, height_of}
use Rattle.atam.specs.TileSystem.{TileSystem}
use Rattle.assembly.specs.Cells.{cell_count}
use Rattle.assembly.specs.Grids.{TileGrid}
use Rattle.replay_order.specs.Inner.Rows.{begun_by}
use Rattle.replay_order.specs.Inner.Spans.{IsListedBehind, CanList}
use Rattle.replay_order.proofs.Spans.{listed_both}

-- rows of the box are within its sites
pub rows-within : (area : BoxArea) (rows : ℕ) → rows ≤ height_of area → rows * width_of area ≤ cell_count area
rows-within area rows within = omega (arith, mul-le-mul_right (width_of area) within, mul_comm (height_of area) (width_of area))

-- the rows of one worker more
pub rows_more : (sys : TileSystem) (grid : TileGrid) (worker start end : ℕ) → CanList sys grid → start ≤ end → (one other new : List Place) →
    IsListedBehind sys grid.tiles 0 (start * width_of sys.area) sys.seeds one →
    IsListedBehind sys grid.tiles (start * width_of sys.area) (end * width_of sys.area) (begun_by sys (suc worker)) other →
    new ≡ one ++ other → IsListedBehind sys grid.tiles 0 (end * width_of sys.area) sys.seeds new
rows_more sys grid worker start end can later one other new before behind both =
    listed_both sys grid can 0 (start * width_of sys.area) (end * width_of sys.area) (omega arith) (mul-le-mul_right (width_of sys.area) later) sys.seeds one other new before behind both
