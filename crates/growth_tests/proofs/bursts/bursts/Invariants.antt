use Rattle.growth_tests.proofs.bursts.bursts.Given as goal

abbrev pub ghosts-bursts_counted : goal.ghosts-bursts_counted
ghosts-bursts_counted a = record { name = a.blank.name; parts = a.blank.parts }
