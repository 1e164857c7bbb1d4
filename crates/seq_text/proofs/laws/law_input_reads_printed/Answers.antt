use Rattle.tile_io.specs.Lines.{first_mark}
use Rattle.std.proofs.Common.{◌++◌, true, false, refl}
use Rattle.tile_text.specs.declared.version.Version.TheVariants.{Two}
use Rattle.tile_text.specs.Spelling.{spelling, spelling_by, newest_spelling, version_of, end_of_print}
use Rattle.tile_text.proofs.PrintLemmas.{has_version}
use Rattle.tile_text.proofs.SystemSpelled.{printed_any}
use Rattle.seq_text.specs.PrintedGrowths.{growth_lines}
use Rattle.seq_text.proofs.Printed.{printed_reads, behind_text}
use Rattle.seq_text.proofs.laws.law_input_reads_printed.Goals as goal

pub returns : goal.returns
returns c = record {
  system = λ sys tail valid. printed_any (version_of sys) sys (spelling sys ++ tail) tail first_mark valid (has_version sys) refl;
  newest = λ sys tail valid. printed_any Two sys (newest_spelling sys ++ tail) tail first_mark valid tt refl;
  sequence = λ version sys places closed verdict valid may.
      let lines = growth_lines sys places closed verdict in
      printed_reads sys valid false places closed verdict (spelling_by version sys ++ lines) (end_of_print version sys first_mark) may (λ no. absurd (cc no)) (behind_text version sys lines);
  grid = λ version sys places closed verdict valid may differ.
      let lines = growth_lines sys places closed verdict in
      printed_reads sys valid true places closed verdict (spelling_by version sys ++ lines) (end_of_print version sys first_mark) may (λ _. differ) (behind_text version sys lines);
}
