use Rattle.std.proofs.Common.{◌≡◌, ◌++◌, take}
use Rattle.assembly.proofs.packed_places.PackedPlaces.append_each.Given as goal

-- so many places of the other one are behind these
abbrev pub invariant-loop-index : goal.invariant-loop-index
invariant-loop-index l = l.all.places ≡ l.self.places ++ take l.index l.others.places
