-- `load`: a counter made from a number, and the summary of what it grows into.
use Rattle.std.specs.Prelude.{◌≡◌, ℕ, ◌+◌, ◌-◌, ◌*◌, ◌/◌, ◌%◌, ◌^◌, min, Bool, true, List, [], ◌∷◌, ◌++◌, codes, decimal, length, Option, Some, None}
use Rattle.atam.specs.TileSystem.{TileSystem}
use Rattle.tile_io.specs.Lines.{line_of}
use Rattle.site_table.specs.Seats.{GrownValue}
use Rattle.grow_workers.specs.Workers.{IsGrownBy}
use Rattle.atam.specs.declared.verdict.Verdict.TheVariants.{Yes}
use Rattle.counter_compile.specs.Counters.{counter_refusal, counter_system, row_count}
use Rattle.seq_text.specs.GrowthLines.{closed_line}
use Rattle.seq_text.specs.VerdictLines.{verdict_line}
use Rattle.unique_law.specs.Outcomes.{Outcome}
use Rattle.tilebench.specs.Growths.{IsGrowth}

-- The counter of a load: 2 to 32 bits, and at most 512 numbers from its start to the last one of so many bits.
abbrev pub load_bits : ℕ → ℕ
load_bits number = 2 + number % 31

abbrev pub load_start : ℕ → ℕ
load_start number = 2 ^ load_bits number - 1 - number / 31 % min (2 ^ load_bits number) 512

abbrev pub load_system : ℕ → TileSystem
load_system number = counter_system (load_bits number) (load_start number)

-- a tile for each bit in each row
abbrev pub load_tiles : ℕ → ℕ
load_tiles number = load_bits number * row_count (load_bits number) (load_start number)

-- The counter of the number, which is not refused, was grown by four workers on a table, which is handed out. All its
-- tiles stand, nothing is open outside its box, the verdict is yes, and the text is of the number alone: the number with
-- its counter's bits and start, how many tiles stand, that nothing is open, and the verdict.
pub record IsLoadAnswer (number : ℕ) (grown : Option GrownValue) (is_yes : Bool) (text : List ℕ) : Type 0 where
  pub accepted : counter_refusal (load_bits number) (load_start number) ≡ None
  pub table : GrownValue
  pub handed_out : grown ≡ Some table
  pub grew : IsGrownBy (load_system number) 4 table
  pub outcome : Outcome
  pub into : IsGrowth (load_system number) table.grid.tiles outcome
  pub all : length table.grid.tiles ≡ load_tiles number
  pub closed : outcome.outside ≡ None
  pub unique : outcome.verdict ≡ Yes
  pub printed : text ≡ (line_of (codes "load" ∷ decimal number ∷ codes "bits"
      ∷ decimal (load_bits number) ∷ codes "start" ∷ decimal (load_start number) ∷ [])
      ++ line_of (codes "tiles" ∷ decimal (load_tiles number) ∷ []))
      ++ (closed_line (load_system number) None ++ verdict_line (load_system number) Yes)
  pub answer : is_yes ≡ true
