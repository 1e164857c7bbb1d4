use Rattle.std.proofs.Common.{◌∙◌, ap, sym, option_map, Some, arith}
use Rattle.std.proofs.lemmas.Result.{IfOk-weaker}
use Rattle.turing_compile.specs.Rows.{tile_shown}
use Rattle.turing_compile.proofs.RowReading.{length-row_shown}
use Rattle.turing_compile.proofs.ConfigsShown.{configs_shown}
use Rattle.turing_compile.proofs.reading.row_config.Goals as goal

pub shown_config-requires : goal.shown_config-requires
shown_config-requires c =
    let is = ap (option_map (λ cells. cells.items)) c.in-Some.is in
    let long = length-row_shown (tile_shown c.args.machine.now c.args.grid.now.tiles c.args.y) c.args.machine.now.cells c.in-Some.cells.items (sym c.in_ok-cells.ensures ∙ is) in
    let most = c.states.ensures.valid.cells.1 in
    let same = c.as_slice-in-Some.ensures.len in
    omega (arith, long, most, same)

pub returns-in-Some-clause-config : goal.returns-in-Some-clause-config
returns-in-Some-clause-config c =
    let is = sym c.in_ok-cells.ensures ∙ ap (option_map (λ cells. cells.items)) c.in-Some.is ∙ ap (λ cells. Some cells) (sym c.as_slice-in-Some.ensures.value) in
    IfOk-weaker c.shown_config.result _ _ (λ found h. configs_shown c.args.machine.now c.states.ensures.valid c.args.grid.now.tiles c.args.y c.as_slice-in-Some.result.now found is h) c.shown_config.ensures
