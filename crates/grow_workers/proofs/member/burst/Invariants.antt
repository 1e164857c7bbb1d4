use Rattle.grow_workers.proofs.member.burst.Given as goal

abbrev pub ghosts-burst_counted : goal.ghosts-burst_counted
ghosts-burst_counted g a = record { name = a.blank.name; parts = a.blank.parts }
