use Rattle.tile_io.proofs.whole.read_on.Given as goal

-- the ledger that the blank opens
abbrev pub ghosts-read_on_ledger : goal.ghosts-read_on_ledger
ghosts-read_on_ledger g a = record { name = a.blank.name; parts = a.blank.parts }
