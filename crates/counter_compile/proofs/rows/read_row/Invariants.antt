use Rattle.std.proofs.Common.{◌≡◌, ◌<◌, ◌^◌}
use Rattle.counter_compile.specs.Counters.{bit_in, number_in_row}
use Rattle.counter_compile.proofs.Reading.{so_far}
use Rattle.counter_compile.proofs.rows.read_row.Given as goal

-- the columns so far are read as the value
abbrev pub invariant-loop-column : goal.invariant-loop-column
invariant-loop-column l = record {
  read : number_in_row l.bits l.counter.start l.grid.tiles l.y ≡ so_far (bit_in l.bits l.counter.start l.grid.tiles l.y) l.bits l.value l.column;
  small : l.value < 2 ^ l.column;
}
