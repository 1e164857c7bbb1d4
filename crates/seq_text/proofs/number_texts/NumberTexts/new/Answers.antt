use Rattle.std.proofs.Common.{◌≤◌, length, decimal, arith}
use Rattle.std.proofs.lemmas.Fmt.{length-decimal-le}
use Rattle.seq_text.proofs.number_texts.NumberTexts.new.Goals as goal

pub of-requires : goal.of-requires
of-requires c =
    let few : length (decimal 0) ≤ 7 = length-decimal-le 7 0 (omega arith) (omega arith) (omega arith) in
    omega (arith, c.new-row.ensures.len, few)
