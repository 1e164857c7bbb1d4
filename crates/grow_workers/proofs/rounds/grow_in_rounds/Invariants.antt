use Rattle.std.proofs.Common.{◌≡◌, ◌≤◌, ◌*◌, length}
use Rattle.grow_workers.specs.Inner.Rounds.{WentOn}
use Rattle.grow_workers.proofs.rounds.grow_in_rounds.Given as goal

-- the rounds so far lead to the stage, and each of them took as many sites as a worker may claim
abbrev pub invariant-loop-round : goal.invariant-loop-round
invariant-loop-round g l = record {
  went : WentOn l.shared.sys.now l.fn.seat l.fn.seen l.stage.seat l.stage.grid l.stage.wins.items;
  count : length l.stage.wins.items ≡ l.shared.workers.count;
  far : l.round * 4096 ≤ length l.stage.grid.tiles;
}
