use Rattle.atam.proofs.Extension.{deterministic_extension}
use Rattle.unique_law.proofs.OneOutcome.{matched}
use Rattle.unique_law.proofs.laws.law_confluence.Goals as goal

pub returns-clause-part : goal.returns-clause-part
returns-clause-part c = matched

pub returns-clause-grows : goal.returns-clause-grows
returns-clause-grows c = deterministic_extension
