use Rattle.std.proofs.Common.{arith, ◌/◌}
use Rattle.number_set.proofs.Nexts.{next_in_word, none_in_word}
use Rattle.number_set.proofs.bits.next_in_word.Goals as goal

pub returns-then-after-eq0-clause-none : goal.returns-then-after-eq0-clause-none
returns-then-after-eq0-clause-none c = none_in_word c.args.words.now c.args.n c.if-after-eq0.true

pub returns-clause-next : goal.returns-clause-next
returns-clause-next c = next_in_word c.args.words.now c.args.n (omega arith) (c.type_inv.words (c.args.n / 64)).fits
