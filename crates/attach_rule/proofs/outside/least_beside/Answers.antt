use Rattle.std.proofs.Common.{◌≡◌, ◌+ℤ◌, ℤ, Some, arith, subst, to_z, of_z, w32}
use Rattle.std.proofs.lemmas.Int.{ints}
use Rattle.atam.specs.declared.site.Site.{Site}
use Rattle.atam.specs.Sites.{InBox}
use Rattle.atam.specs.Growth.{IsLeastOpenAmong}
use Rattle.attach_rule.specs.Inner.Searches.{row_at}
use Rattle.attach_rule.proofs.Searched.{column_none, column_found}
use Rattle.attach_rule.proofs.outside.least_beside.Goals as goal

pub returns-in-Some : goal.returns-in-Some
returns-in-Some g c =
    let tiles = g.P.Placed.placements c.args.placed.now in
    let Least : ℤ → Type 0 = λ y. IsLeastOpenAmong c.args.sys.now tiles (InBox (row_at c.args.area.now y)) (Some c.in-Some.found) in
    let same_y : to_z w32 (of_z w32 c.args.y) ≡ c.args.y = omega (arith, ints) in
    subst Least same_y (
    column_found c.args.sys.now tiles c.args.area.now (to_z w32 (of_z w32 c.args.y)) c.loop-column.column _ c.in-Some.found
    c.loop-column.invariant c.in-Some.ensures (omega (arith, ints)) (omega (arith, ints)) (omega (arith, ints))
    )

pub loop-column-preserved : goal.loop-column-preserved
loop-column-preserved g c =
    column_none c.args.sys.now (g.P.Placed.placements c.args.placed.now) c.args.area.now _ c.loop-column.column _
    c.loop-column.invariant c.in_default.ensures (omega (arith, ints)) (omega (arith, ints))

pub open_beside-requires-clause-beside : goal.open_beside-requires-clause-beside
open_beside-requires-clause-beside g c =
    let site : Site = record {
      y = to_z w32 (of_z w32 c.args.y);
      x = to_z w32 (of_z w32 (to_z w32 (of_z w32 c.args.area.now.x0) +ℤ to_z w32 c.loop-column.column));
    }
    in
    c.requires.beside site (record {
      left = omega (arith, ints);
      right = omega (arith, ints);
      bottom = omega (arith, ints);
      top = omega (arith, ints);
    })
