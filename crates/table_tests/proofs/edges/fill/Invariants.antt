use Rattle.table_tests.proofs.edges.fill.Given as goal

abbrev pub ghosts-fill_counted : goal.ghosts-fill_counted
ghosts-fill_counted a = record { name = a.blank.name; parts = a.blank.parts }
