-- What the cells of an assembly of a quadrant's tiles name.
use Rattle.std.specs.Prelude.{◌≡◌, ℕ, suc, List, Option, Some, None, option_and_then, slice_get}
use Rattle.atam.specs.declared.place.TypeId.{TypeId}
use Rattle.atam.specs.declared.place.Place.{Place}
use Rattle.atam.specs.Placements.{tile_at}
use Rattle.design.specs.TileSets.{cell_site}
use Rattle.quadrant_compile.specs.declared.tile.Kind.{Kind}
use Rattle.quadrant_compile.specs.declared.tile.Kind.TheVariants.{Corner, Bottom, Left, Cell}
use Rattle.quadrant_compile.specs.Quadrants.{RuleQuadrant}
use Rattle.quadrant_compile.specs.Recurrence.{cell_for}
use Rattle.quadrant_compile.specs.Inner.Listed.{kinds}

-- the symbols from the west and from the south that a kind of tile is for
abbrev pub symbols_of : Kind → Option (ℕ × ℕ)
symbols_of Corner = None
symbols_of (Bottom i) = None
symbols_of (Left j) = None
symbols_of (Cell a b) = Some (a, b)

-- those of the type with this index
abbrev pub type_symbols : RuleQuadrant → TypeId → Option (ℕ × ℕ)
type_symbols q t = option_and_then symbols_of (slice_get (kinds q) t.0)

-- those of the tile in column i of row j; none where there is no tile
abbrev pub cell_at : RuleQuadrant → List Place → ℕ → ℕ → Option (ℕ × ℕ)
cell_at q tiles i j = option_and_then (type_symbols q) (tile_at tiles (cell_site i j))

-- two symbols, where both are there and have a rule
abbrev pub ruled_inputs : RuleQuadrant → Option ℕ → Option ℕ → Option (ℕ × ℕ)
ruled_inputs q west south = option_and_then symbols_of (cell_for q west south)

-- the type with this index is that of a cell
abbrev pub IsCellType : RuleQuadrant → TypeId → Type 0
IsCellType q t = (a b : ℕ) × (slice_get (kinds q) t.0 ≡ Some (Cell a b))

-- whatever tile is at a cell is of the type of a cell
abbrev pub HasCells : RuleQuadrant → List Place → Type 0
HasCells q tiles = (i j : ℕ) (t : TypeId) → tile_at tiles (cell_site (suc i) (suc j)) ≡ Some t → IsCellType q t
