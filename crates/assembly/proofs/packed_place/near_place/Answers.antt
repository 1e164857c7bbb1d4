use Rattle.std.proofs.Common.{arith}
use Rattle.std.proofs.lemmas.Int.{ints}
use Rattle.assembly.proofs.Packing.{near_place-is}
use Rattle.assembly.proofs.packed_place.near_place.Goals as goal

pub returns : goal.returns
returns c = near_place-is c.args.number _ _ _ (omega (arith, ints)) (omega (arith, ints)) (omega arith)
