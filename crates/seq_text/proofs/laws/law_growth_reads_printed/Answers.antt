use Rattle.std.proofs.Common.{true, false}
use Rattle.seq_text.proofs.Printed.{printed_reads}
use Rattle.seq_text.proofs.laws.law_growth_reads_printed.Goals as goal

pub returns : goal.returns
returns c = record {
  sequence = λ sys places closed verdict text from valid may e. printed_reads sys valid false places closed verdict text from may (λ no. absurd (cc no)) e;
  grid = λ sys places closed verdict text from valid may differ e. printed_reads sys valid true places closed verdict text from may (λ _. differ) e;
}
