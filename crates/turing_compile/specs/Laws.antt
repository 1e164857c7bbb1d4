-- Laws of the tiles of a machine, for every machine.
use Rattle.std.specs.Prelude.{◌≡◌, ℕ, ◌<◌, ◌≤◌, List, length, Option, Some, None, slice_get}
use Rattle.atam.specs.declared.place.Place.{Place}
use Rattle.atam.specs.Placements.{HasDistinctSites, tile_at}
use Rattle.atam.specs.TileSystem.{IsValid}
use Rattle.atam.specs.Growth.{IsLegal, IsProducible, IsClosedInBox}
use Rattle.design.specs.TileSets.{cell_site}
use Rattle.design.specs.Laws.{HasDeterministicGrowth}
use Rattle.machine_text.specs.Machines.{TuringMachine, Configuration, IsMachine, after}
use Rattle.turing_compile.specs.Shown.{cell_of}
use Rattle.turing_compile.specs.Compiled.{compiled}
use Rattle.turing_compile.specs.Rows.{type_shown, tile_shown, row_config}

-- a place in row y shows a cell of the configuration after y steps, which is there
pub record ShowsRun (M : TuringMachine) (p : Place) : Type 0 where
  pub column : ℕ
  pub row : ℕ
  pub config : Configuration
  pub site : p.site ≡ cell_site column row
  pub within : column < M.cells
  pub there : after M row ≡ Some config
  pub shows : type_shown M p.tile ≡ Some (cell_of config column)

-- each place of a legal list does so
abbrev pub PlacesShowTheRun : Type 0
PlacesShowTheRun = (M : TuringMachine) (s : List Place) → IsMachine M → IsLegal (compiled M) s → (i : ℕ) (p : Place) → slice_get s i ≡ Some p → ShowsRun M p

-- a row is complete and shows a configuration, or it is empty where there is none
abbrev pub IsRowOf : TuringMachine → List Place → ℕ → Option Configuration → Type 0
IsRowOf M tiles y None = (i : ℕ) → i < M.cells → tile_at tiles (cell_site i y) ≡ None
IsRowOf M tiles y (Some c) = (i : ℕ) → i < M.cells → tile_shown M tiles y i ≡ Some (cell_of c i)

-- an assembly of the machine's tiles that nothing extends in the box
pub record IsFullGrowth (M : TuringMachine) (tiles : List Place) : Type 0 where
  pub producible : IsProducible (compiled M) tiles
  pub distinct : HasDistinctSites tiles
  pub closed : IsClosedInBox (compiled M) tiles

-- its rows are those of the run
abbrev pub FullGrowthsShowTheRun : Type 0
FullGrowthsShowTheRun = (M : TuringMachine) (tiles : List Place) → IsMachine M → IsFullGrowth M tiles → (y : ℕ) → y < M.rows → IsRowOf M tiles y (after M y)

-- and are read as its configurations
abbrev pub FullGrowthsReadBack : Type 0
FullGrowthsReadBack = (M : TuringMachine) (tiles : List Place) → IsMachine M → IsFullGrowth M tiles → (y : ℕ) → y < M.rows → row_config M tiles y ≡ after M y

-- where the machine stops within the rows, some list of placements in the box is locally deterministic
abbrev pub StoppedRunsAreDeterministic : Type 0
StoppedRunsAreDeterministic = (M : TuringMachine) → IsMachine M → after M M.rows ≡ None → HasDeterministicGrowth (compiled M)

-- the system of every machine is within all limits, and no two of its names are alike
abbrev pub CompiledSystemsAreValid : Type 0
CompiledSystemsAreValid = (M : TuringMachine) → IsMachine M → IsValid (compiled M)

-- and has at most 4801 glues and 12928 types
abbrev pub CompiledSystemsAreSmall : Type 0
CompiledSystemsAreSmall = (M : TuringMachine) → IsMachine M → (length (compiled M).glues ≤ 4801) × (length (compiled M).types ≤ 12928)
