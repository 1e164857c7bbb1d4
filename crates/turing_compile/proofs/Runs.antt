-- What grows from a machine's tiles.
use Rattle.std.proofs.Common.{◌≡◌, ◌<◌, ℕ, List, Option, Some, None, slice_get, option_map, option_and_then, Contains, sym, ◌∙◌, ap, inl, inr, arith}
use Rattle.std.proofs.lemmas.Int.{ints}
use Rattle.std.proofs.lemmas.Option.{none-some}
use Rattle.std.proofs.lemmas.Bool.{cases_lt}
use Rattle.atam.specs.declared.place.Place.{Place}
use Rattle.atam.specs.Placements.{tile_at}
use Rattle.atam.specs.TileSystem.{IsValid}
use Rattle.atam.specs.Growth.{IsLegal}
use Rattle.design.specs.TileSets.{cell_site, type_id}
use Rattle.design.specs.RowDesigns.{IsBoxOfRows}
use Rattle.design.specs.Laws.{HasDeterministicGrowth}
use Rattle.design.proofs.Rows.{places_are_cells, cells_are_filled, deterministic_rows}
use Rattle.design.proofs.Tables.{kind_there}
use Rattle.machine_text.specs.Machines.{TuringMachine, Configuration, IsMachine, after}
use Rattle.machine_text.proofs.Steps.{stays_stopped}
use Rattle.turing_compile.specs.declared.kind.Kind.{Kind}
use Rattle.turing_compile.specs.declared.kind.Kind.TheVariants.{First}
use Rattle.turing_compile.specs.Shown.{shown}
use Rattle.turing_compile.specs.Compiled.{tiles_of, compiled}
use Rattle.turing_compile.specs.Inner.Listed.{kinds, area_of}
use Rattle.turing_compile.specs.Rows.{type_shown, row_config}
use Rattle.turing_compile.specs.Laws.{ShowsRun, IsRowOf, IsFullGrowth}
use Rattle.turing_compile.proofs.MachineFacts.{last_is, config_after}
use Rattle.turing_compile.proofs.Listed.{is_tile_set}
use Rattle.turing_compile.proofs.Running.{machine_rows, rows_grow}
use Rattle.turing_compile.proofs.RowReading.{row_config-empty, row_config-shown}
use Rattle.turing_compile.proofs.RunRows.{row_of, row_gone, row_complete, what_is_shown}

module _ (M : TuringMachine) (is_machine : IsMachine M) where
  rows_box : IsBoxOfRows (machine_rows M) (area_of M)
  rows_box = record {
    left = omega (arith, ints);
    bottom = omega (arith, ints);
    right = let some = is_machine.cells.0 in omega (arith, ints, some);
  }

  -- what the type of a kind shows is what the kind shows
  type_shown-kind : (k : Kind) → Contains (kinds M) k → type_shown M (type_id (tiles_of M) k) ≡ shown M k
  type_shown-kind k listed = ap (option_and_then (shown M)) (kind_there (tiles_of M) (is_tile_set M is_machine) (First 0) (area_of M) k listed)

  pub places_show : (s : List Place) → IsLegal (compiled M) s → (i : ℕ) (p : Place) → slice_get s i ≡ Some p → ShowsRun M p
  places_show s legal i p there =
      let grow = rows_grow M is_machine in
      let c = places_are_cells (tiles_of M) (is_tile_set M is_machine) (First 0) (area_of M) (machine_rows M) grow s legal i p there in
      let shows = what_is_shown M is_machine c.column c.row c.kind c.wanted in
      record {
        column = c.column;
        row = c.row;
        config = shows.config;
        site = c.site;
        within = grow.columns c.column c.row c.kind c.wanted;
        there = shows.there;
        shows = ap (type_shown M) c.tile ∙ type_shown-kind c.kind (grow.kinds c.column c.row c.kind c.wanted) ∙ shows.shows_cell;
      }

  module _ (tiles : List Place) (growth : IsFullGrowth M tiles) where
    filled : (i y : ℕ) → i < M.cells → y < M.rows → tile_at tiles (cell_site i y) ≡ option_map (type_id (tiles_of M)) (row_of M y i)
    filled i y column row =
        cells_are_filled (tiles_of M) (is_tile_set M is_machine) (First 0) (area_of M) (machine_rows M) (rows_grow M is_machine) rows_box
        tiles growth.producible growth.distinct growth.closed i y column (omega (arith, ints, row))

    row_is : (y : ℕ) → y < M.rows → (o : Option Configuration) → after M y ≡ o → IsRowOf M tiles y o
    row_is y row None gone = λ i column. filled i y column row ∙ ap (option_map (type_id (tiles_of M))) (row_gone M y i gone)
    row_is y row (Some c) there = λ i column.
        let last = last_is M is_machine in
        let tile = row_complete M is_machine y i c there (omega (arith, column, last)) in
        ap (option_and_then (type_shown M)) (filled i y column row ∙ ap (option_map (type_id (tiles_of M))) tile.there)
        ∙ type_shown-kind tile.kind ((rows_grow M is_machine).kinds i y tile.kind tile.there)
        ∙ tile.shows

    reads_back : (y : ℕ) → y < M.rows → (o : Option Configuration) → after M y ≡ o → row_config M tiles y ≡ o
    reads_back y row None gone = row_config-empty M is_machine tiles y (row_is y row None gone)
    reads_back y row (Some c) there = row_config-shown M tiles y c (config_after M is_machine y c there) (row_is y row (Some c) there)

  pub rows_show : (tiles : List Place) → IsFullGrowth M tiles → (y : ℕ) → y < M.rows → IsRowOf M tiles y (after M y)
  rows_show tiles growth y row = row_is tiles growth y row (after M y) (λ z. after M y)

  pub rows_read_back : (tiles : List Place) → IsFullGrowth M tiles → (y : ℕ) → y < M.rows → row_config M tiles y ≡ after M y
  rows_read_back tiles growth y row = reads_back tiles growth y row (after M y) (λ z. after M y)

  pub stopped_run : IsValid (compiled M) → after M M.rows ≡ None → HasDeterministicGrowth (compiled M)
  stopped_run valid stopped =
      deterministic_rows (tiles_of M) (is_tile_set M is_machine) (First 0) (area_of M) (machine_rows M) (rows_grow M is_machine) rows_box valid (λ i y k wanted.
      elim (cases_lt y M.rows) [
        | inl within ↦ omega (arith, ints, within)
        | inr past ↦
            let shows = what_is_shown M is_machine i y k wanted in
            let none = stays_stopped M M.rows y past stopped in
            absurd (none-some shows.config (sym none ∙ shows.there))
      ])
