use Rattle.std.proofs.Common.{◌≡◌}
use Rattle.assembly.specs.Rows.{IsRow}
use Rattle.replay_order.specs.Inner.Spans.{HaveStood}
use Rattle.replay_order.proofs.canonical.stand_row_below.Given as goal

-- the tiles at the sites below the number stand, and the sites of the set are those that are ready
abbrev pub invariant-loop-number : goal.invariant-loop-number
invariant-loop-number l = record {
  same_first : l.waiting.first ≡ l.fn.waiting.first;
  same_end : l.waiting.end ≡ l.fn.waiting.end;
  stood : HaveStood l.bonds l.grid.tiles l.first l.bonds.seeds l.number l.waiting;
  row : IsRow l.area l.row;
}
