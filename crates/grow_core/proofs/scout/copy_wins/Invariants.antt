use Rattle.std.proofs.Common.{◌≡◌, ◌≤◌, ◌+◌, length, ◌++◌, take}
use Rattle.std.specs.Vec.{vec_capacity}
use Rattle.grow_core.specs.Core.{placed_by}
use Rattle.grow_core.proofs.scout.copy_wins.Given as goal

-- the tiles so far are copied
abbrev pub invariant-loop-tile : goal.invariant-loop-tile
invariant-loop-tile l = record {
  wins : l.wins.items ≡ l.initial.wins.items ++ placed_by l.number (take l.tile-index l.tiles);
  few : length l.wins.items ≤ length l.initial.wins.items + l.tile-index;
  room : vec_capacity l.wins ≡ vec_capacity l.initial.wins;
}
