use Rattle.std.proofs.Common.{refl}
use Rattle.quadrant_compile.proofs.laws.law_example.Goals as goal

pub returns-clause-shown : goal.returns-clause-shown
returns-clause-shown c = record { first = refl; east = refl; north = refl; last = refl; past = refl }

pub returns-clause-stops : goal.returns-clause-stops
returns-clause-stops c = record { corner = refl; bottom = refl; left = refl; first = refl; east = refl; north = refl; last = refl }
