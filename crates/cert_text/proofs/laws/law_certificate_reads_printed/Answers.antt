use Rattle.tile_text.specs.declared.version.Version.TheVariants.{Two}
use Rattle.tile_text.specs.Spelling.{version_of}
use Rattle.tile_text.proofs.PrintLemmas.{has_version}
use Rattle.cert_text.proofs.Printed.{printed_reads, reads_back}
use Rattle.cert_text.proofs.laws.law_certificate_reads_printed.Goals as goal

pub returns : goal.returns
returns c = record {
  lines = λ sys c text from valid may there. printed_reads sys valid c text from may there;
  input = λ sys c valid may. reads_back sys valid (version_of sys) (has_version sys) c may;
  newest = λ sys c valid may. reads_back sys valid Two tt c may;
}
