use Rattle.std.proofs.Common.{◌≡◌}
use Rattle.assembly.specs.Rows.{IsRow}
use Rattle.replay_order.proofs.InTurn.{ListsInTurn}
use Rattle.replay_order.proofs.in_turn.list_held.Given as goal

-- the tiles at the sites below the number are listed
abbrev pub invariant-loop-number : goal.invariant-loop-number
invariant-loop-number l = record {
  turn : ListsInTurn l.bonds l.grid.tiles l.first l.number l.fn.log.places l.log.places;
  same_room : l.log.room ≡ l.fn.log.room;
  row : IsRow l.area l.row;
}
