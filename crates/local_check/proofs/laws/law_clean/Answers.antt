use Rattle.local_check.proofs.Clean.{clean_no_rivals}
use Rattle.local_check.proofs.laws.law_clean.Goals as goal

pub returns : goal.returns
returns c = clean_no_rivals
