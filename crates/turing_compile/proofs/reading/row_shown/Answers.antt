use Rattle.std.proofs.Common.{◌∙◌, ◌<◌, ap, sym, Some, arith}
use Rattle.turing_compile.specs.Rows.{tile_shown}
use Rattle.turing_compile.proofs.RowReading.{row_shown-more, row_shown-none}
use Rattle.turing_compile.proofs.reading.row_shown.Goals as goal

pub loop-column-preserved : goal.loop-column-preserved
loop-column-preserved c =
    row_shown-more (tile_shown c.args.machine.now c.args.grid.now.tiles c.args.y) c.loop-column.column c.loop-column.cells.items c.in-Some.shown c.loop-column.invariant (sym c.in-Some.ensures)
    ∙ ap (λ cells. Some cells) (sym c.in_ok-push-in-Some.ensures.items)

pub returns-in-None : goal.returns-in-None
returns-in-None c =
    let within : c.loop-column.column < c.args.machine.now.cells = omega (arith, c.loop-column-test.true, c.cells-column-end.ensures) in
    sym (row_shown-none (tile_shown c.args.machine.now c.args.grid.now.tiles c.args.y) c.args.machine.now.cells c.loop-column.column within (sym c.in-None.ensures))
