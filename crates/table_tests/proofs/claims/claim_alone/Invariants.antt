use Rattle.table_tests.proofs.claims.claim_alone.Given as goal

abbrev pub ghosts-claim_counted : goal.ghosts-claim_counted
ghosts-claim_counted a = record { name = a.blank.name; parts = a.blank.parts }
