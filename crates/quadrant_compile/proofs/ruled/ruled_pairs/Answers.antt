use Rattle.std.proofs.Common.{ap, ◌∙◌, arith}
use Rattle.quadrant_compile.specs.Quadrants.{pairs_below}
use Rattle.quadrant_compile.specs.Inner.SoFar.{quadrant_in}
use Rattle.quadrant_compile.proofs.Listed.{pair_below}
use Rattle.quadrant_compile.proofs.ruled.ruled_pairs.Goals as goal

pub find-requires-clause-west : goal.find-requires-clause-west
find-requires-clause-west c =
    let same = c.as_slice-west-items.ensures.value ∙ c.in_ok-all.ensures ∙ ap pairs_below c.len.ensures in
    let below = (pair_below (quadrant_in c.args.parts.now) c.requires c.as_slice-west-items.result.now c.loop-west.west-index same c.loop-west-test.true).0 in
    let few = c.requires.symbols.count.1 in
    omega (arith, below, few)

pub find-requires-clause-south : goal.find-requires-clause-south
find-requires-clause-south c =
    let same = c.as_slice-west-items.ensures.value ∙ c.in_ok-all.ensures ∙ ap pairs_below c.len.ensures in
    let below = (pair_below (quadrant_in c.args.parts.now) c.requires c.as_slice-west-items.result.now c.loop-west.west-index same c.loop-west-test.true).1 in
    let few = c.requires.symbols.count.1 in
    omega (arith, below, few)
