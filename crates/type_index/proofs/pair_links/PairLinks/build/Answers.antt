use Rattle.std.proofs.Common.{◌-◌, ◌<◌, ℕ, arith, subst}
use Rattle.type_index.specs.PairLinks.{ArePairLinks}
use Rattle.type_index.proofs.PairOrders.{links_put, pair_is, pair_there}
use Rattle.type_index.proofs.pair_links.PairLinks.build.Goals as goal

pub loop-passed-preserved : goal.loop-passed-preserved
loop-passed-preserved c =
    let sys = c.args.sys.now in
    let kinds = c.args.kinds.now in
    let number : ℕ = c.pair_count-count.result - 1 - c.loop-passed.passed in
    let count = c.pair_count-count.ensures.count in
    let below : number < c.pair_count-count.result = omega (arith, c.loop-passed-test.true) in
    let is_there = pair_there c.pairs-pairs.result.now sys.pairs number c.pair_count-count.result _ c.pairs-pairs.ensures.pairs count below in
    let Before : ℕ → Type 0 = λ n. ArePairLinks sys kinds n c.loop-passed.links in
    let After : ℕ → Type 0 = λ n. ArePairLinks sys kinds n c.put.new.self in
    subst After (omega (arith, count, c.loop-passed-test.true))
    (links_put sys kinds number _ is_there (pair_is sys c.pairs-pairs.result.now number _ c.pairs-pairs.ensures.pairs c.pairs-pairs.ensures.each is_there) c.loop-passed.links c.put.new.self
    (subst Before (omega (arith, count, c.loop-passed-test.true)) c.loop-passed.invariant) c.put.ensures)

pub returns : goal.returns
returns c =
    let sys = c.args.sys.now in
    let kinds = c.args.kinds.now in
    let Links : ℕ → Type 0 = λ n. ArePairLinks sys kinds n c.loop-passed.links in
    subst Links (omega (arith, c.pair_count-count.ensures.count, c.loop-passed-test.false)) c.loop-passed.invariant
