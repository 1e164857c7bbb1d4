use Rattle.std.proofs.Common.{◌+ℤ◌, ◌-ℤ◌, pos, arith, subst, to_z, of_z, w32}
use Rattle.std.proofs.lemmas.Int.{ints}
use Rattle.atam.specs.declared.area.BoxArea.{BoxArea}
use Rattle.atam.specs.declared.site.Site.{Site}
use Rattle.atam.specs.declared.site.Side.TheVariants.{East, West}
use Rattle.attach_rule.specs.Inner.Searches.{IsBesideBox}
use Rattle.attach_rule.proofs.Ring.{west_beside, east_beside}
use Rattle.attach_rule.proofs.Searched.{west_found, east_last}
use Rattle.attach_rule.proofs.outside.least_at_row_ends.Goals as goal

pub returns-in-Some : goal.returns-in-Some
returns-in-Some g c =
    west_found c.args.sys.now (g.P.Placed.placements c.args.placed.now) c.args.area.now c.args.y _ (omega (arith, ints)) (omega (arith, ints))
    c.in-Some.found c.requires.corners.columns c.in-Some.ensures

pub returns : goal.returns
returns g c =
    east_last c.args.sys.now (g.P.Placed.placements c.args.placed.now) c.args.area.now c.args.y _ (omega (arith, ints)) (omega (arith, ints))
    _ c.open_beside-2.result (omega (arith, ints)) (omega (arith, ints)) c.in_default.ensures c.open_beside-2.ensures

pub open_beside-requires-clause-beside : goal.open_beside-requires-clause-beside
open_beside-requires-clause-beside g c =
    let west : Site = record {
      y = to_z w32 (of_z w32 c.args.y);
      x = to_z w32 (of_z w32 (to_z w32 (of_z w32 c.args.area.now.x0) -ℤ pos 1));
    }
    in
    subst (λ (a : BoxArea). IsBesideBox a East west) c.requires.area (west_beside c.args.area.now west (omega (arith, ints)))

pub open_beside-requires-2-clause-beside : goal.open_beside-requires-2-clause-beside
open_beside-requires-2-clause-beside g c =
    let east : Site = record {
      y = to_z w32 (of_z w32 c.args.y);
      x = to_z w32 (of_z w32 (to_z w32 (of_z w32 c.args.area.now.x1) +ℤ pos 1));
    }
    in
    subst (λ (a : BoxArea). IsBesideBox a West east) c.requires.area (east_beside c.args.area.now east (omega (arith, ints)))
