use Rattle.site_table.proofs.Tallies.{none_tallied}
use Rattle.site_table.proofs.tally.Tally.new.Goals as goal

pub returns : goal.returns
returns c = none_tallied
