use Rattle.std.proofs.Common.{ap, ◌∙◌}
use Rattle.number_set.proofs.Sets.{IsLeastOf-lowest}
use Rattle.number_set.proofs.set.NumberSet.pop_least.Goals as goal

pub returns-clause-least : goal.returns-clause-least
returns-clause-least c =
    IsLeastOf-lowest c.args.self.now c.as_slice.result.now c.in_ok-word.word c.lowest_in_word-n.result
    (c.as_slice.ensures.value ∙ ap (λ s. s.words) c.self.view_is) c.in_ok-word.ensures.first c.lowest_in_word-n.ensures
