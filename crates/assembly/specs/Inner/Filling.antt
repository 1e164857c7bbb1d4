-- Cells that fill the gaps of others.
use Rattle.std.specs.Prelude.{ℕ, ◌==◌, List, if◌then◌else◌, slice_index}

-- a cell, or the other one where it is of no tile
abbrev pub cell_over : ℕ → ℕ → ℕ
cell_over own other = if own == 0 then other else own

-- the cell of another list where there was none
abbrev pub filled_cell : List ℕ → List ℕ → ℕ → ℕ
filled_cell old other k = cell_over (slice_index old k) (slice_index other k)
