use Rattle.std.proofs.Common.{ap, ◌∙◌, ◌≢◌}
use Rattle.number_set.specs.Numbers.{bit_of}
use Rattle.number_set.proofs.Nexts.{least_found, none_found, not_in}
use Rattle.number_set.proofs.set.NumberSet.least_from.Goals as goal

pub returns-clause-least : goal.returns-clause-least
returns-clause-least c =
    let absent : bit_of c.args.self.now.words c.args.from ≢ 1 = not_in _ c.args.self.now c.args.from c.contains.ensures c.if-contains.false in
    least_found c.args.self.now c.as_slice-3.result.now c.args.from _ (c.as_slice-3.ensures.value ∙ ap (λ s. s.words) c.self.view_is) absent c.next_bit_below.ensures.next

pub returns-clause-none : goal.returns-clause-none
returns-clause-none c =
    let absent : bit_of c.args.self.now.words c.args.from ≢ 1 = not_in _ c.args.self.now c.args.from c.contains.ensures c.if-contains.false in
    none_found c.args.self.now c.as_slice-3.result.now c.args.from _ (c.as_slice-3.ensures.value ∙ ap (λ s. s.words) c.self.view_is) absent c.next_bit_below.ensures.none
