use Rattle.std.proofs.Common.{◌≡◌, take}
use Rattle.assembly.proofs.place_log.PlaceLog.make.Given as goal

-- the seeds so far
abbrev pub invariant-loop-seed : goal.invariant-loop-seed
invariant-loop-seed l = l.places.places ≡ take l.seed-index l.seed-items
