-- What each worker of a growth won.
use Rattle.std.specs.Prelude.{◌≡◌, ◌+◌, ℕ, length, slice_index, sum_by}
use Rattle.std.specs.List.{range_with_len}
use Rattle.atam.specs.TileSystem.{TileSystem}
use Rattle.site_table.specs.Seats.{GrownValue}
use Rattle.grow_workers.specs.Workers.{worker_number}

-- how many tiles a worker won, which is the count of its number
abbrev pub won_by : GrownValue → ℕ → ℕ
won_by table worker = slice_index table.won (worker_number worker)

-- together so many workers won the tiles but for the seeds
abbrev pub WonAll : ℕ → TileSystem → GrownValue → Type 0
WonAll workers sys table =
    sum_by (won_by table) (range_with_len 0 workers) + length sys.seeds ≡ length table.grid.tiles
