use Rattle.grow_workers.proofs.rounds.burst_from.Given as goal

abbrev pub ghosts-burst_counted : goal.ghosts-burst_counted
ghosts-burst_counted g a = record { name = a.blank.name; parts = a.blank.parts }
