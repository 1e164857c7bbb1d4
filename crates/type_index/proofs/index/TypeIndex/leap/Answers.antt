use Rattle.std.proofs.Common.{ℕ, arith, subst, sym}
use Rattle.type_index.specs.Inner.Cursors.{IsWalk}
use Rattle.type_index.proofs.Walks.{none_joined}
use Rattle.type_index.proofs.index.TypeIndex.leap.Goals as goal

pub loop-last-preserved : goal.loop-last-preserved
loop-last-preserved c =
    let sys = c.args.sys.now in
    let glues = c.args.glues.now in
    let at = c.loop-last.invariant in
    let on = c.pass_to-bound.ensures in
    let walk = c.pass_to-bound.new.walk in
    record {
      walk = on.walk;
      ways = on.ways;
      spare = omega (arith, on.spare, at.spare);
      before = on.after;
      begun = omega (arith, at.begun, on.after);
      within = on.within;
      none = none_joined sys glues c.args.walk.now.from c.loop-last.bound c.pass_to-bound.result at.none on.none;
      reached = λ stays.
          let Is : ℕ → Type 0 = λ k. IsWalk sys glues (record { from = k; north = walk.north; east = walk.east; south = walk.south; west = walk.west }) in
          subst Is (sym stays) (on.reached stays);
    }
