use Rattle.std.proofs.Common.{◌≡◌, ◌+◌, ◌-◌, ◌≤◌, length}
use Rattle.type_index.specs.Inner.Cursors.{IsWalk, IsWalkBehind, WalksOn, most_of}
use Rattle.type_index.specs.HeldTypes.{NoneHeld}
use Rattle.type_index.proofs.index.TypeIndex.leap.Given as goal

-- none is held before the bound, which all cursors have reached where the last pass left it
abbrev pub invariant-loop-last : goal.invariant-loop-last
invariant-loop-last l = record {
  walk : IsWalkBehind l.sys l.glues l.bound l.walk;
  ways : WalksOn l.sys l.self l.glues l.walk;
  spare : most_of l.walk ≤ l.sys.tau + l.spare;
  before : l.last ≤ l.bound;
  begun : l.fn.walk.from ≤ l.bound;
  within : l.bound ≤ length l.sys.types;
  none : NoneHeld l.sys l.glues l.fn.walk.from l.bound;
  reached : l.bound ≡ l.last → IsWalk l.sys l.glues (record l.walk { from = l.bound });
}

abbrev pub decreases-loop-last : goal.decreases-loop-last
decreases-loop-last l = length l.sys.types - l.last
