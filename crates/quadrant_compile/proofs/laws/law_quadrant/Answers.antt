use Rattle.quadrant_compile.proofs.Growing.{place_there, place_inside, filled, recurs, deterministic}
use Rattle.quadrant_compile.proofs.Named.{quadrant_system_valid}
use Rattle.quadrant_compile.proofs.laws.law_quadrant.Goals as goal

pub returns-clause-places : goal.returns-clause-places
returns-clause-places c =
    λ q s is_quadrant legal i p there. place_there q is_quadrant s legal i p there

pub returns-clause-in_box : goal.returns-clause-in_box
returns-clause-in_box c =
    λ q s is_quadrant legal i p there. place_inside q is_quadrant s legal i p there

pub returns-clause-filled : goal.returns-clause-filled
returns-clause-filled c =
    λ q tiles is_quadrant growth i j column row.
    filled q is_quadrant tiles growth i j column row

pub returns-clause-recurrence : goal.returns-clause-recurrence
returns-clause-recurrence c =
    λ q tiles e n is_quadrant is growth i j column row.
    recurs q is_quadrant tiles e n is growth i j column row

pub returns-clause-deterministic : goal.returns-clause-deterministic
returns-clause-deterministic c =
    λ q is_quadrant. deterministic q is_quadrant (quadrant_system_valid q is_quadrant)
