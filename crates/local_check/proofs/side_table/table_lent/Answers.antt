use Rattle.local_check.proofs.side_table.table_lent.Goals as goal

pub returns : goal.returns
returns c =
    let can = c.requires.can in
    c.table.ensures c.args.laid.now.seq.now can.legal can.placements can.index c.requires.survey
