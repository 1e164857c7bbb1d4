use Rattle.std.proofs.Common.{◌∙◌, ap, arith}
use Rattle.counter_compile.specs.Counters.{number_in_row}
use Rattle.counter_compile.proofs.Grids.{fits, types_listed, row_small, grid_counts}
use Rattle.counter_compile.proofs.rows.row_value.Goals as goal

pub counter_of_box-counter-requires : goal.counter_of_box-counter-requires
counter_of_box-counter-requires c =
    let counter = c.requires.counter in
    (counter.0, fits c.args.bits counter.0 c.args.grid.now counter.1, c.area.ensures.area ∙ counter.1.area)

pub read_row-requires-clause-some : goal.read_row-requires-clause-some
read_row-requires-clause-some c =
    let counter = c.requires.counter in
    let least = (fits c.args.bits counter.0 c.args.grid.now counter.1).least in
    omega (arith, least)

pub read_row-requires-clause-most : goal.read_row-requires-clause-most
read_row-requires-clause-most c = let counter = c.requires.counter in (fits c.args.bits counter.0 c.args.grid.now counter.1).most

pub read_row-requires-clause-row : goal.read_row-requires-clause-row
read_row-requires-clause-row c = let counter = c.requires.counter in row_small c.args.bits counter.0 c.args.grid.now counter.1 c.args.y c.requires.row

pub read_row-requires-clause-types : goal.read_row-requires-clause-types
read_row-requires-clause-types c = let counter = c.requires.counter in types_listed c.args.bits counter.0 c.args.grid.now counter.1

pub returns-clause-value : goal.returns-clause-value
returns-clause-value c = λ start is_grid.
    let start_is = c.counter_of_box-counter.ensures.start start (fits c.args.bits start c.args.grid.now is_grid) (c.area.ensures.area ∙ is_grid.area) in
    c.read_row.ensures ∙ ap (λ n. number_in_row c.args.bits n c.args.grid.now.tiles c.args.y) start_is

pub returns-clause-counts : goal.returns-clause-counts
returns-clause-counts c = λ start is_grid producible closed.
    let start_is = c.counter_of_box-counter.ensures.start start (fits c.args.bits start c.args.grid.now is_grid) (c.area.ensures.area ∙ is_grid.area) in
    c.read_row.ensures
    ∙ ap (λ n. number_in_row c.args.bits n c.args.grid.now.tiles c.args.y) start_is
    ∙ grid_counts c.args.bits start c.args.grid.now is_grid c.args.y c.requires.row c.area.ensures.distinct producible closed
