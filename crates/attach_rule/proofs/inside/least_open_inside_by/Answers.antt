use Rattle.std.proofs.Common.{arith, Some, subst}
use Rattle.std.proofs.lemmas.Int.{ints}
use Rattle.atam.specs.declared.area.BoxArea.{BoxArea}
use Rattle.atam.specs.Sites.{InBox}
use Rattle.atam.specs.Growth.{IsLeastOpenAmong}
use Rattle.attach_rule.proofs.Searched.{row_none, row_found}
use Rattle.attach_rule.proofs.inside.least_open_inside_by.Goals as goal

pub returns-in-Some : goal.returns-in-Some
returns-in-Some g c =
    let tiles = g.P.Placed.placements c.args.placed.now in
    let Least : BoxArea → Type 0 = λ area. IsLeastOpenAmong c.args.sys.now tiles (InBox area) (Some c.in-Some.found) in
    subst Least c.area-area.ensures.area (
    row_found c.args.sys.now tiles c.area-area.result _ c.loop-row.row c.in-Some.found
    c.loop-row.invariant c.in-Some.ensures (omega (arith, ints)) (omega (arith, ints))
    )

pub loop-row-preserved : goal.loop-row-preserved
loop-row-preserved g c =
    row_none c.args.sys.now (g.P.Placed.placements c.args.placed.now) c.area-area.result _ c.loop-row.row
    c.loop-row.invariant c.in_default.ensures (omega (arith, ints))
