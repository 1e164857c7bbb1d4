use Rattle.std.proofs.Common.{◌+◌, ◌-◌, ◌≤◌, length}
use Rattle.assembly.specs.Rows.{IsRow}
use Rattle.replay_order.proofs.SpanSteps.{IsSpanBegun}
use Rattle.replay_order.proofs.canonical.list_ready.Given as goal

-- a part of what follows has been listed, and there is room for the rest
abbrev pub invariant-loop-number : goal.invariant-loop-number
invariant-loop-number l = record {
  begun : IsSpanBegun l.bonds l.grid.tiles l.fn.waiting.first l.fn.waiting.end l.fn.log.places l.log.places l.waiting;
  room : length l.fn.log.places + (l.fn.waiting.end - l.fn.waiting.first) ≤ l.log.room;
  row : IsRow l.area l.row;
}

-- each step lists one tile
abbrev pub decreases-loop-number : goal.decreases-loop-number
decreases-loop-number l = length l.fn.log.places + length l.grid.tiles - length l.log.places
