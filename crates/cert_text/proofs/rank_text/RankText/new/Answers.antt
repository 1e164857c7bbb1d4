use Rattle.std.proofs.Common.{◌<◌, ◌∙◌, arith}
use Rattle.cert_text.proofs.RankTexts.{one_digit, more_digits}
use Rattle.cert_text.proofs.rank_text.RankText.new.Goals as goal

pub invariant_of-result-clause-spelled : goal.invariant_of-result-clause-spelled
invariant_of-result-clause-spelled c digit less = one_digit c.args.tens digit c.if-tens-eq0.true less

pub invariant_of-result-2-clause-spelled : goal.invariant_of-result-2-clause-spelled
invariant_of-result-2-clause-spelled c digit less =
    let some : 0 < c.args.tens = omega (arith, c.if-tens-eq0.false) in
    more_digits c.args.tens digit c.as_bytes-digits.result.now c.copy_from_slice.new.self _ some c.requires less c.copy_from_slice.ensures.after (c.as_bytes-digits.ensures.value ∙ c.format.ensures.text)
