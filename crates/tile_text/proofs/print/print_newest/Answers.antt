use Rattle.tile_text.specs.declared.version.Version.TheVariants.{Two}
use Rattle.tile_text.proofs.SystemSpelled.{printed_reads, printed_any}
use Rattle.tile_text.proofs.print.print_newest.Goals as goal

pub returns-clause-reads_back : goal.returns-clause-reads_back
returns-clause-reads_back g c = λ text rest from print. printed_any Two c.args.sys.now text rest from c.print_version.ensures.valid tt print

pub returns-clause-reads_newest : goal.returns-clause-reads_newest
returns-clause-reads_newest g c = λ text rest from print. printed_reads Two c.args.sys.now text rest from c.print_version.ensures.valid tt print
