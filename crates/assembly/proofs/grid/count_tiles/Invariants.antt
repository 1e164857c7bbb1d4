use Rattle.std.proofs.Common.{◌≡◌, take, count_by}
use Rattle.assembly.specs.Inner.GridCells.{is_tile}
use Rattle.assembly.proofs.grid.count_tiles.Given as goal

-- of the cells so far
abbrev pub invariant-loop-cell : goal.invariant-loop-cell
invariant-loop-cell l = l.count ≡ count_by is_tile (take l.cell-index l.cells)
