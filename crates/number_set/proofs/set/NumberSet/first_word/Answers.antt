use Rattle.std.proofs.Common.{ℕ, List, ap, ◌∙◌, subst, IfNone}
use Rattle.number_set.specs.Inner.Bits.{AreZero}
use Rattle.number_set.proofs.set.NumberSet.first_word.Goals as goal

pub returns-clause-zero : goal.returns-clause-zero
returns-clause-zero c =
    let Says : List ℕ → Type 0 = λ l. IfNone c.first_word_below.result (AreZero l) in
    subst Says (c.as_slice-3.ensures.value ∙ ap (λ s. s.words) c.self.view_is) c.first_word_below.ensures.zero
