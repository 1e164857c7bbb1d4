use Rattle.number_set.proofs.Nexts.{IsNextBit-marked}
use Rattle.number_set.proofs.bits.next_bit_below.Goals as goal

pub returns-clause-next : goal.returns-clause-next
returns-clause-next c =
    IsNextBit-marked c.args.mid.now c.args.low.now c.args.n c.in_ok-word.word c.lowest_in_word.result c.requires.mid_marks c.in_default.ensures.none c.in_ok-word.ensures.next c.lowest_in_word.ensures
