use Rattle.std.proofs.Common.{◌≡◌, ◌+◌, ◌++◌, ◌∷◌, ◌∙◌, [], List, Some, ap, arith, drop, get_or, slice_get, sym, zero-le}
use Rattle.atam.specs.declared.place.GluePair.{GluePair}
use Rattle.std.proofs.Math.Nat.{le_refl}
use Rattle.std.proofs.lemmas.List.{append_assoc}
use Rattle.type_index.specs.declared.partners.Partner.{Partner}
use Rattle.type_index.specs.Partners.{partner_in, partners_of}
use Rattle.type_index.proofs.PairOrders.{has_glue, pair_there}
use Rattle.type_index.proofs.Partnering.{partner_here, partners_passed}
use Rattle.type_index.proofs.partners.gather.Goals as goal

pub loop-number-init : goal.loop-number-init
loop-number-init c =
    let sys = c.args.sys.now in
    let kinds = c.args.kinds.now in
    let next = c.first-number.ensures kinds c.requires.links in
    let From : List Partner → List Partner = λ rest. c.args.partners.now.items ++ rest in
    record {
      told = sym (ap From (partners_passed kinds c.args.glue sys.pairs 0 c.first-number.result zero-le next.within next.none_between));
      next = record { after = le_refl _; within = next.within; none_between = λ k p later below there. let never : ⊥ = omega (arith, later, below) in absurd never; here = next.here };
    }

pub behind-number-requires-clause-pair : goal.behind-number-requires-clause-pair
behind-number-requires-clause-pair c =
    pair_there c.pairs-pairs.result.now c.args.sys.now.pairs c.loop-number.number c.pair_count-count.result _ c.pairs-pairs.ensures.pairs c.pair_count-count.ensures.count c.loop-number-test.true

pub behind-number-requires-clause-glue : goal.behind-number-requires-clause-glue
behind-number-requires-clause-glue c =
    let none : GluePair = record { first = record { 0 = 0 }; second = record { 0 = 0 }; strength = 0 } in
    let p : GluePair = get_or c.pairs-pairs.result.now c.loop-number.number none in
    has_glue c.args.kinds.now c.args.glue p
    (c.loop-number.invariant.next.here p (pair_there c.pairs-pairs.result.now c.args.sys.now.pairs c.loop-number.number c.pair_count-count.result none c.pairs-pairs.ensures.pairs c.pair_count-count.ensures.count c.loop-number-test.true))

pub loop-number-smaller : goal.loop-number-smaller
loop-number-smaller c = omega (arith, (c.behind-number.ensures c.args.kinds.now c.requires.links).after, c.loop-number-test.true, c.pair_count-count.ensures.count)

pub loop-number-preserved : goal.loop-number-preserved
loop-number-preserved c =
    let sys = c.args.sys.now in
    let kinds = c.args.kinds.now in
    let g = c.args.glue in
    let n = c.loop-number.number in
    let at = c.loop-number.invariant in
    let before = c.loop-number.partners.items in
    let next = c.behind-number.ensures kinds c.requires.links in
    let none : GluePair = record { first = record { 0 = 0 }; second = record { 0 = 0 }; strength = 0 } in
    let p : GluePair = get_or c.pairs-pairs.result.now c.loop-number.number none in
    let is_there : slice_get sys.pairs n ≡ Some p =
    pair_there c.pairs-pairs.result.now sys.pairs n c.pair_count-count.result none c.pairs-pairs.ensures.pairs c.pair_count-count.ensures.count c.loop-number-test.true in
    let passed = partners_passed kinds g sys.pairs (n + 1) c.behind-number.result next.after next.within next.none_between in
    let rest = partners_of kinds g (drop c.behind-number.result sys.pairs) in
    let here = partner_here kinds g sys.pairs n p is_there (at.next.here p is_there) in
    let After : List Partner → List Partner = λ ps. before ++ ps in
    let First : List Partner → List Partner = λ ps. partner_in g p ∷ ps in
    let Put : Partner → List Partner = λ q. before ++ q ∷ [] in
    let pushed : c.push.new.self.items ≡ before ++ partner_in g p ∷ [] = c.in_ok-push.ensures.items ∙ ap Put c.partner_of.ensures in
    record {
      told = ap (λ ps. ps ++ rest) pushed ∙ append_assoc before (partner_in g p ∷ []) rest ∙ sym (ap After (here ∙ ap First passed)) ∙ at.told;
      next = record { after = le_refl _; within = next.within; none_between = λ k p later below there. let never : ⊥ = omega (arith, later, below) in absurd never; here = next.here };
    }
