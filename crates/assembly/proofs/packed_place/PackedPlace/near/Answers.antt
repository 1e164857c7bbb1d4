use Rattle.std.proofs.Common.{arith}
use Rattle.std.proofs.lemmas.Int.{ints}
use Rattle.assembly.proofs.Packing.{near_place-packed}
use Rattle.assembly.proofs.packed_place.PackedPlace.near.Goals as goal

pub returns-clause-place : goal.returns-clause-place
returns-clause-place c = near_place-packed c.args.place _ _ c.requires (omega (arith, ints)) (omega (arith, ints))
