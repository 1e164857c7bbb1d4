use Rattle.grow_core.proofs.Start.{start-invariant}
use Rattle.grow_core.proofs.Stepped.{step-invariant, run-invariant, producible}
use Rattle.grow_core.proofs.laws.law_kept.Goals as goal

pub returns-clause-start : goal.returns-clause-start
returns-clause-start c sys s valid is = start-invariant sys valid s is

pub returns-clause-events : goal.returns-clause-events
returns-clause-events c = step-invariant

pub returns-clause-runs : goal.returns-clause-runs
returns-clause-runs c sys s t replies valid is run =
    let holds = run-invariant sys s t replies valid run (start-invariant sys valid s is) in
    (holds, producible sys t holds)
