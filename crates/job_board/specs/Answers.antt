-- What answers a system, and what answers jobs.
use Rattle.std.specs.Prelude.{List}
use Rattle.std.specs.List.{AllZip}
use Rattle.atam.specs.declared.place.Place.{Place}
use Rattle.atam.specs.TileSystem.{TileSystem}
use Rattle.unique_law.specs.Outcomes.{Outcome, IsOutcome}
use Rattle.job_board.specs.declared.job.Job.{Job}

-- The outcome of some full growth of the system: its canonical sequence, the least open site outside the box, and the verdict on the sequence.
pub record Answers (sys : TileSystem) (outcome : Outcome) : Type 0 where
  pub tiles : List Place
  pub told : IsOutcome sys tiles outcome

-- outcome i answers job i, and there is one for each job
abbrev pub AnswerEach : List Job → List Outcome → Type 0
AnswerEach jobs outcomes = AllZip (λ job outcome. Answers job.sys outcome) jobs outcomes
