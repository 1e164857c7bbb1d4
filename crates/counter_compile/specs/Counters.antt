-- The system of a counter, and the numbers that the rows of what grows from it show.
use Rattle.std.specs.Prelude.{◌≡◌, ◌≤◌, ℕ, ◌+◌, ◌-◌, ◌*◌, ◌/◌, ◌%◌, ◌^◌, ◌<◌, pos, nat_lt, nat_le, Bool, not, ◌&&◌, if◌then◌else◌, List, [], ◌∷◌, length, map, Option, Some, None, option_map, option_and_then, slice_get, All, Result, Ok, Err}
use Rattle.std.specs.List.{range_with_len}
use Rattle.atam.specs.declared.area.BoxArea.{BoxArea}
use Rattle.atam.specs.declared.place.Place.{Place}
use Rattle.atam.specs.Placements.{HasDistinctSites, tile_at}
use Rattle.atam.specs.TileSystem.{TileSystem, IsType}
use Rattle.atam.specs.Growth.{IsProducible, IsClosedInBox}
use Rattle.assembly.specs.Grids.{TileGrid}
use Rattle.design.specs.TileSets.{cell_site, system_of}
use Rattle.design.specs.Laws.{HasDeterministicGrowth}
use Rattle.counter_compile.specs.declared.kind.Kind.TheVariants.{First}
use Rattle.counter_compile.specs.declared.stop.CounterStop.{CounterStop}
use Rattle.counter_compile.specs.declared.stop.CounterStop.TheVariants.{BitsOutOfRange, StartTooLarge, TooTall, NoMemory}
use Rattle.counter_compile.specs.Tiles.{digit, shown_bit, kinds_of, tiles_of}

-- two rows for each number from the start on
abbrev pub row_count : ℕ → ℕ → ℕ
row_count bits start = 2 * (2 ^ bits - start)

-- the system of a counter in the box of its columns and rows, the first tile as its seed
abbrev pub counter_system : ℕ → ℕ → TileSystem
counter_system bits start = system_of (tiles_of (bits - 1) start) (First 0)
    (record { x0 = pos 0; y0 = pos 0; x1 = pos (bits - 1); y1 = pos (row_count bits start - 1) })

abbrev pub counter_box : ℕ → ℕ → BoxArea
counter_box bits start = (counter_system bits start).area

-- why a counter is refused: it has 2 to 32 bits, starts at a number of so many bits, and has at most 1024 rows
unfoldable pub counter_refusal : ℕ → ℕ → Option CounterStop
counter_refusal bits start =
    if not (nat_le 2 bits && nat_le bits 32) then Some BitsOutOfRange
    else if nat_le (2 ^ bits) start then Some StartTooLarge
    else if nat_lt 1024 (row_count bits start) then Some TooTall
    else None

-- the refusal that an answer names; want of memory is none
abbrev pub refusal_of : {T : Type 0} → Result T CounterStop → Option CounterStop
refusal_of (Ok value) = None
refusal_of (Err NoMemory) = None
refusal_of (Err stop) = Some stop

-- the number whose bits are listed, the highest first; none where one is missing
abbrev pub number_of : List (Option Bool) → Option ℕ
number_of [] = Some 0
number_of (None ∷ bits) = None
number_of (Some b ∷ bits) = option_map (λ low. digit b * 2 ^ length bits + low) (number_of bits)

-- the bit that the tile in a column of a row shows, if there is a tile
abbrev pub bit_in : ℕ → ℕ → List Place → ℕ → ℕ → Option Bool
bit_in bits start tiles y i =
    option_and_then (λ t. option_map (shown_bit (bits - 1) start) (slice_get (kinds_of (bits - 1)) t.0)) (tile_at tiles (cell_site i y))

-- the number that a row shows, the west bit the highest; none where a site of the row is empty
abbrev pub number_in_row : ℕ → ℕ → List Place → ℕ → Option ℕ
number_in_row bits start tiles y = number_of (map (bit_in bits start tiles y) (range_with_len 0 bits))

-- a grid over the box of a counter, with types of its system
pub record IsOfCounter (bits start : ℕ) (grid : TileGrid) : Type 0 where
  pub accepted : counter_refusal bits start ≡ None
  pub area : grid.area ≡ counter_box bits start
  pub types : All (λ p. IsType (counter_system bits start) p.tile) grid.tiles

-- The system of a counter has 12 glues and 16 types more than it has bits.
abbrev pub CountersAreSmall : Type 0
CountersAreSmall = (bits start : ℕ) → 1 ≤ bits → (length (counter_system bits start).glues ≡ bits + 12) × (length (counter_system bits start).types ≡ bits + 16)

-- Of every counter that is not refused, some list of placements in the box is locally deterministic.
abbrev pub CountersAreDeterministic : Type 0
CountersAreDeterministic = (bits start : ℕ) → counter_refusal bits start ≡ None → HasDeterministicGrowth (counter_system bits start)

-- In a producible assembly that is closed in the box, row y shows start + (y + 1) / 2, modulo 2^bits.
abbrev pub RowsCount : Type 0
RowsCount = (bits start : ℕ) (tiles : List Place) → counter_refusal bits start ≡ None →
    IsProducible (counter_system bits start) tiles → HasDistinctSites tiles → IsClosedInBox (counter_system bits start) tiles →
    (y : ℕ) → y < row_count bits start → number_in_row bits start tiles y ≡ Some ((start + (y + 1) / 2) % 2 ^ bits)
