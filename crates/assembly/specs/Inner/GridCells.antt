-- The cells of a grid.
use Rattle.std.specs.Prelude.{◌≡◌, ℕ, ◌-◌, ◌==◌, if◌then◌else◌, not, Bool, List, length, Option, Some, None, count_by}
use Rattle.atam.specs.declared.place.TypeId.{TypeId}
use Rattle.atam.specs.declared.area.BoxArea.{BoxArea}
use Rattle.atam.specs.Sites.{IsBox}
use Rattle.assembly.specs.Cells.{cell_count}

-- a cell is 0 at an empty site, and else one more than the index of the tile's type
abbrev pub is_tile : ℕ → Bool
is_tile cell = not (cell == 0)

-- the type in a cell
abbrev pub type_in : ℕ → Option TypeId
type_in cell = if cell == 0 then None else Some (record { 0 = cell - 1 })

-- there is one cell for each site of the box, and the tiles are counted
pub record IsGrid (area : BoxArea) (cells : List ℕ) (count : ℕ) : Type 0 where
  pub box_limits : IsBox area
  pub sites : length cells ≡ cell_count area
  pub counted : count ≡ count_by is_tile cells
