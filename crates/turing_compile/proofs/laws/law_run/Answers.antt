use Rattle.turing_compile.proofs.Runs.{places_show, rows_show, rows_read_back, stopped_run}
use Rattle.turing_compile.proofs.Named.{compiled_valid}
use Rattle.turing_compile.proofs.laws.law_run.Goals as goal

pub returns-clause-places : goal.returns-clause-places
returns-clause-places c = λ M s is_machine legal i p there. places_show M is_machine s legal i p there

pub returns-clause-rows : goal.returns-clause-rows
returns-clause-rows c = λ M tiles is_machine growth y row. rows_show M is_machine tiles growth y row

pub returns-clause-read_back : goal.returns-clause-read_back
returns-clause-read_back c = λ M tiles is_machine growth y row. rows_read_back M is_machine tiles growth y row

pub returns-clause-deterministic : goal.returns-clause-deterministic
returns-clause-deterministic c = λ M is_machine stopped. stopped_run M is_machine (compiled_valid M is_machine) stopped
