-- `batch`: what many systems grow into, each within its own box.
use Rattle.std.specs.Prelude.{◌≡◌, ℕ, Bool, List}
use Rattle.std.specs.List.{list_all}
use Rattle.unique_law.specs.Outcomes.{Outcome}
use Rattle.job_board.specs.declared.job.Job.{Job}
use Rattle.job_board.specs.AnswerText.{batch_text, is_unique}
use Rattle.job_board.specs.Answers.{AnswerEach}
use Rattle.tilebench.specs.Inputs.{IsBatch}

-- The input is the text of a batch, and this that of what answers its jobs: under the number of each job what its own system grew into. It is a yes where each verdict is.
pub record IsBatchAnswer (input : List ℕ) (is_yes : Bool) (text : List ℕ) : Type 0 where
  pub jobs : List Job
  pub read : IsBatch input jobs
  pub outcomes : List Outcome
  pub answered : AnswerEach jobs outcomes
  pub printed : text ≡ batch_text jobs outcomes
  pub answer : is_yes ≡ list_all (λ outcome. is_unique outcome.verdict) outcomes
