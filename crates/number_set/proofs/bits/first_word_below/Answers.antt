use Rattle.number_set.proofs.Sets.{IsFirstWord-below}
use Rattle.number_set.proofs.bits.first_word_below.Goals as goal

pub returns-clause-first : goal.returns-clause-first
returns-clause-first c =
    IsFirstWord-below c.args.top.now c.args.mid.now c.args.low.now c.in_ok-high.high c.lowest_in_word-middle.result c.lowest_in_word.result
    c.requires.top_marks c.requires.mid_marks c.in_ok-high.ensures.first c.lowest_in_word-middle.ensures c.lowest_in_word.ensures
