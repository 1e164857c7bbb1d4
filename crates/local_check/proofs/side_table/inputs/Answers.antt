use Rattle.atam.proofs.Sequences.{IsLegal-distinct}
use Rattle.local_check.proofs.side_table.inputs.Goals as goal

pub grid_of-requires-clause-distinct : goal.grid_of-requires-clause-distinct
grid_of-requires-clause-distinct c = IsLegal-distinct c.args.sys.now c.args.seq.now c.recall_valid.ensures.valid.distinct_seeds c.requires.legal
