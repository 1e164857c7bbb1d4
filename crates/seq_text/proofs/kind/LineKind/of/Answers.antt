use Rattle.std.proofs.Common.{codes, sym, ap, arith}
use Rattle.std.proofs.lemmas.Slice.Eq.{text_from_reads}
use Rattle.seq_text.specs.Inner.Kinds.{kind_named}
use Rattle.seq_text.proofs.kind.LineKind.of.Goals as goal

pub returns-in-closed : goal.returns-in-closed
returns-in-closed c =
    let is = text_from_reads c.args.word.now (codes "closed") (omega arith) (omega arith, (omega arith, (omega arith, (omega arith, (omega arith, (omega arith, tt)))))) in
    sym (ap kind_named is)

pub returns-in-unique : goal.returns-in-unique
returns-in-unique c =
    let is = text_from_reads c.args.word.now (codes "unique") (omega arith) (omega arith, (omega arith, (omega arith, (omega arith, (omega arith, (omega arith, tt)))))) in
    sym (ap kind_named is)
