use Rattle.std.proofs.Common.{arith}
use Rattle.std.proofs.lemmas.Int.{ints}
use Rattle.attach_rule.proofs.Searched.{ends_none, ends_found}
use Rattle.attach_rule.proofs.outside.least_at_ends.Goals as goal

pub returns-in-Some : goal.returns-in-Some
returns-in-Some g c =
    ends_found c.args.sys.now (g.P.Placed.placements c.args.placed.now) c.args.area.now _ c.loop-row.row c.in-Some.found
    c.loop-row.invariant c.in-Some.ensures (omega (arith, ints)) (omega (arith, ints))

pub loop-row-preserved : goal.loop-row-preserved
loop-row-preserved g c =
    ends_none c.args.sys.now (g.P.Placed.placements c.args.placed.now) c.args.area.now _ c.loop-row.row
    c.loop-row.invariant c.in_default.ensures (omega (arith, ints))
