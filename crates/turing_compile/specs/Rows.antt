-- What the rows of an assembly of a machine's tiles show.
use Rattle.std.specs.Prelude.{ℕ, ◌+◌, nat_le, if◌then◌else◌, List, [], ◌∷◌, ◌++◌, length, map, Option, Some, None, option_map, option_and_then, slice_get}
use Rattle.std.specs.List.{range_with_len}
use Rattle.atam.specs.declared.place.TypeId.{TypeId}
use Rattle.atam.specs.declared.place.Place.{Place}
use Rattle.atam.specs.Placements.{tile_at}
use Rattle.design.specs.TileSets.{cell_site}
use Rattle.machine_text.specs.declared.config.Head.{Head}
use Rattle.machine_text.specs.Machines.{TuringMachine, Configuration}
use Rattle.turing_compile.specs.declared.kind.Shown.{Shown}
use Rattle.turing_compile.specs.Shown.{shown}
use Rattle.turing_compile.specs.Inner.Listed.{kinds}

-- what the type with this index shows
abbrev pub type_shown : TuringMachine → TypeId → Option Shown
type_shown M t = option_and_then (shown M) (slice_get (kinds M) t.0)

-- what the tile in column i of row y shows; none where the cell is empty
abbrev pub tile_shown : TuringMachine → List Place → ℕ → ℕ → Option Shown
tile_shown M tiles y i = option_and_then (type_shown M) (tile_at tiles (cell_site i y))

-- what all of them hold, if none is none
abbrev pub all_of : {X : Type 0} → List (Option X) → Option (List X)
all_of [] = Some []
all_of (x ∷ xs) = option_and_then (λ y. option_map (λ ys. y ∷ ys) (all_of xs)) x

-- what the tiles of a row show, from column 0 on; none where a cell is empty
abbrev pub row_shown : TuringMachine → List Place → ℕ → Option (List Shown)
row_shown M tiles y = all_of (map (tile_shown M tiles y) (range_with_len 0 M.cells))

-- the head of a shown cell, if it is there
abbrev pub head_shown : ℕ → Shown → List Head
head_shown i cell = elim (cell.state) [ None ↦ [] | Some q ↦ record { cell = i; state = q } ∷ [] ]

-- the heads that cells show, of which the first is cell i
abbrev pub heads_from : ℕ → List Shown → List Head
heads_from i [] = []
heads_from i (cell ∷ cells) = head_shown i cell ++ heads_from (i + 1) cells

-- the configuration of shown cells; none where two of them show a head
abbrev pub shown_config : List Shown → Option Configuration
shown_config cells = if nat_le (length (heads_from 0 cells)) 1 then Some (record { symbols = map (λ cell. cell.symbol) cells; head = slice_get (heads_from 0 cells) 0 }) else None

-- the configuration that a row shows; none where a cell of it is empty, or two of its tiles show a head
abbrev pub row_config : TuringMachine → List Place → ℕ → Option Configuration
row_config M tiles y = option_and_then shown_config (row_shown M tiles y)
