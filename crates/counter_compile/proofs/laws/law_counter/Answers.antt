use Rattle.counter_compile.proofs.Counting.{deterministic_count, row_counts}
use Rattle.counter_compile.proofs.Limits.{accepted, glue_count, is_valid_counter, type_count}
use Rattle.counter_compile.proofs.laws.law_counter.Goals as goal

pub returns-clause-small : goal.returns-clause-small
returns-clause-small c = λ bits start some. (glue_count bits start some, type_count bits start some)

pub returns-clause-deterministic : goal.returns-clause-deterministic
returns-clause-deterministic c = λ bits start none. let fits = accepted bits start none in deterministic_count bits start fits.least fits.start (is_valid_counter bits start fits)

pub returns-clause-rows : goal.returns-clause-rows
returns-clause-rows c = λ bits start tiles none producible distinct closed y row.
    let fits = accepted bits start none in
    row_counts bits start fits.least fits.start tiles producible distinct closed y row
