use Rattle.std.proofs.Common.{◌≡◌, map, Some}
use Rattle.std.specs.List.{range_with_len}
use Rattle.turing_compile.specs.Rows.{all_of, tile_shown}
use Rattle.turing_compile.proofs.reading.row_shown.Given as goal

-- what the tiles of the columns so far show
abbrev pub invariant-loop-column : goal.invariant-loop-column
invariant-loop-column l = all_of (map (tile_shown l.machine l.grid.tiles l.y) (range_with_len 0 l.column)) ≡ Some l.cells.items
