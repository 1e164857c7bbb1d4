use Rattle.std.proofs.Common.{arith, inl, inr, length}
use Rattle.std.proofs.lemmas.Bool.{cases_lt}
use Rattle.std.proofs.lemmas.List.{get_or_past}
use Rattle.number_set.proofs.bits.next_word.Goals as goal

pub returns-clause-none : goal.returns-clause-none
returns-clause-none c w after =
    elim (cases_lt w (length c.args.words.now)) [
      | inl within ↦ c.loop-next.invariant w after (omega arith)
      | inr past ↦ get_or_past c.args.words.now w 0 past
    ]
