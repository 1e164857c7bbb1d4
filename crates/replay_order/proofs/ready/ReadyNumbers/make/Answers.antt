use Rattle.std.proofs.Common.{inl, inr}
use Rattle.std.proofs.lemmas.Option.{none-some}
use Rattle.replay_order.proofs.ready.ReadyNumbers.make.Goals as goal

pub returns-clause-empty : goal.returns-clause-empty
returns-clause-empty c = λ n among. elim among [ inl apart ↦ none-some n apart | inr is_in ↦ c.in_ok-make.ensures.empty n is_in ]
