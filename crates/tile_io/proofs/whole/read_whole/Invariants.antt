use Rattle.tile_io.proofs.whole.read_whole.Given as goal

-- the ledger that the blank opens
abbrev pub ghosts-read_whole_ledger : goal.ghosts-read_whole_ledger
ghosts-read_whole_ledger g a = record { name = a.blank.name; parts = a.blank.parts }
