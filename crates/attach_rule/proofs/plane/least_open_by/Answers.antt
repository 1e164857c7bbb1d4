use Rattle.attach_rule.proofs.LeastOfBoth.{least_inside, least_outside}
use Rattle.attach_rule.proofs.plane.least_open_by.Goals as goal

pub returns-then-precedes : goal.returns-then-precedes
returns-then-precedes g c =
    least_outside c.args.sys.now _ c.least_open_inside_by-inside.result c.least_open_outside_by-outside.result c.least_open_inside_by-inside.ensures c.least_open_outside_by-outside.ensures
    (c.precedes.ensures.0 c.if-precedes.true)

pub returns-else-precedes : goal.returns-else-precedes
returns-else-precedes g c =
    least_inside c.args.sys.now _ c.least_open_inside_by-inside.result c.least_open_outside_by-outside.result c.least_open_inside_by-inside.ensures c.least_open_outside_by-outside.ensures
    (λ first. let yes_it_is = c.precedes.ensures.1 first in cc (yes_it_is, c.if-precedes.false))
