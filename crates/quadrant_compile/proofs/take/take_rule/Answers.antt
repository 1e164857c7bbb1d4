use Rattle.std.proofs.Common.{refl, sym}
use Rattle.quadrant_compile.proofs.take.take_rule.Goals as goal

pub returns-in-Ok : goal.returns-in-Ok
returns-in-Ok c =
    let parts = c.args.parts.now in
    rw (sym c.in_ok-rule.ensures.rule, c.in-Ok.ensures.ok) refl
