use Rattle.std.proofs.Common.{◌≡◌, ◌≤◌, length}
use Rattle.fan_out.specs.Portions.{InARow}
use Rattle.fan_out.specs.Inner.Portions.{IsPortion}
use Rattle.fan_out.proofs.portions.portions_of.Given as goal

-- the portions so far are in a row up to the next number, which is the end once each worker has one
abbrev pub invariant-loop-worker : goal.invariant-loop-worker
invariant-loop-worker l = record {
  below : l.worker ≤ l.workers;
  count : length l.portions.items ≡ l.worker;
  within : l.start ≤ l.end;
  all : l.worker ≡ l.workers → l.start ≡ l.end;
  row : InARow IsPortion 0 0 l.start l.portions.items;
}
