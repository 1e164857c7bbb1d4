use Rattle.job_board.proofs.run.run_board.Given as goal

abbrev pub ghosts-run_in : goal.ghosts-run_in
ghosts-run_in g a = record { jobs = a.jobs.now }
