use Rattle.grow_workers.proofs.ending.sweep.Given as goal

abbrev pub ghosts-sweep_counted : goal.ghosts-sweep_counted
ghosts-sweep_counted g a = record { name = a.blank.name; parts = a.blank.parts }
