use Rattle.site_table.proofs.Closing.{finally}
use Rattle.site_table.proofs.laws.law_quiet.Goals as goal

pub returns : goal.returns
returns c sys v valid closed = finally sys v valid closed
