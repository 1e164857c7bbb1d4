use Rattle.std.proofs.Common.{◌≡◌, ◌≤◌, length, take}
use Rattle.assembly.proofs.sequence.Sequence.starts_with.Given as goal

-- the places so far are those that it begins with
abbrev pub invariant-loop-index : goal.invariant-loop-index
invariant-loop-index l = record {
  within : length l.places ≤ length l.self;
  begins : take l.index l.self ≡ take l.index l.places;
}
