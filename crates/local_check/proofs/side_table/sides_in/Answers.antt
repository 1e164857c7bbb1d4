use Rattle.local_check.proofs.side_table.sides_in.Goals as goal

pub returns : goal.returns
returns c =
    c.table.ensures c.args.seq.now c.requires.legal c.requires.placements c.in_ok-index.ensures
    c.in_ok-survey.ensures
