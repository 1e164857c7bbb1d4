use Rattle.std.proofs.Common.{arith, subst}
use Rattle.std.proofs.lemmas.Int.{ints}
use Rattle.atam.specs.declared.area.BoxArea.{BoxArea}
use Rattle.atam.specs.declared.site.Side.TheVariants.{North, South}
use Rattle.attach_rule.specs.Inner.Searches.{IsBesideBox}
use Rattle.attach_rule.proofs.Ring.{below_beside, above_beside, below_found, ends_found, above_last}
use Rattle.attach_rule.proofs.outside.least_open_outside_by.Goals as goal

pub returns-in-Some : goal.returns-in-Some
returns-in-Some g c =
    below_found c.args.sys.now (g.P.Placed.placements c.args.placed.now) c.area-area.ensures.valid.some_tau c.requires.fits
    c.area-area.result c.area-area.ensures.area _ (omega (arith, ints)) c.in-Some.below c.in-Some.ensures c.area-area.ensures.box_limits.corners.rows

pub returns-in-Some-least_at_ends : goal.returns-in-Some-least_at_ends
returns-in-Some-least_at_ends g c =
    ends_found c.args.sys.now (g.P.Placed.placements c.args.placed.now) c.area-area.ensures.valid.some_tau c.requires.fits
    c.area-area.result c.area-area.ensures.area _ (omega (arith, ints)) c.in_default.ensures
    c.in-Some-least_at_ends.beside c.in-Some-least_at_ends.ensures

pub returns : goal.returns
returns g c =
    above_last c.args.sys.now (g.P.Placed.placements c.args.placed.now) c.area-area.ensures.valid.some_tau c.requires.fits
    c.area-area.result c.area-area.ensures.area _ (omega (arith, ints)) c.in_default.ensures
    _ c.least_beside-2.result (omega (arith, ints)) c.in_default-least_at_ends.ensures c.least_beside-2.ensures

pub least_beside-requires-clause-beside : goal.least_beside-requires-clause-beside
least_beside-requires-clause-beside g c = λ m of_row.
    subst (λ (a : BoxArea). IsBesideBox a North m) c.area-area.ensures.area (below_beside c.area-area.result _ (omega (arith, ints)) m of_row)

pub least_beside-requires-2-clause-beside : goal.least_beside-requires-2-clause-beside
least_beside-requires-2-clause-beside g c = λ m of_row.
    subst (λ (a : BoxArea). IsBesideBox a South m) c.area-area.ensures.area (above_beside c.area-area.result _ (omega (arith, ints)) m of_row)
