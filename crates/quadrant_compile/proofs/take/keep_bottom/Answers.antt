use Rattle.std.proofs.Common.{refl}
use Rattle.quadrant_compile.proofs.take.keep_bottom.Goals as goal

pub returns-in-Ok : goal.returns-in-Ok
returns-in-Ok c = λ words refer.
    rw (refer, c.in-Ok.ensures.items) refl
