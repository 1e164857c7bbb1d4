use Rattle.std.proofs.Common.{◌≡◌, ℕ, Bool, true, List, Err, Vec, Global, refl, subst}
use Rattle.std.proofs.lemmas.Result.{err_from_is_err_and}
use Rattle.tilebench.specs.declared.stop.Stop.{Stop}
use Rattle.tilebench.specs.declared.stop.Stop.TheVariants.{Words, Counter, Text, ReadFault, NoMemory}
use Rattle.std.specs.List.{list_all}
use Rattle.job_board.specs.AnswerText.{batch_text, is_unique}
use Rattle.unique_law.specs.Outcomes.{Outcome}
use Rattle.tilebench.specs.declared.commands.batch.Batched.{Batched}
use Rattle.tilebench.specs.Inner.CommandRows.{batch_row}
use Rattle.tilebench.specs.Rows.{RoomRow}
use Rattle.tilebench.specs.Inner.Gives.{Gives, GivesAnswer}
use Rattle.job_board.specs.declared.job.Job.{Job}
use Rattle.job_board.specs.Answers.{AnswerEach}
use Rattle.tilebench.specs.Inputs.{IsBatch}
use Rattle.tilebench.proofs.commands.batch.Batch.answer.Goals as goal

pub returns : goal.returns
returns g c =
    let jobs = c.in_ok-jobs.jobs.items in
    let outcomes = c.in_ok-outcomes.outcomes.items in
    let Read : List ℕ → Type 0 = λ input. IsBatch input jobs in
    let Each : List Job → Type 0 = λ list. AnswerEach list outcomes in
    let answered : AnswerEach jobs outcomes = subst Each c.as_slice.ensures.value c.in_ok-outcomes.ensures in
    record {
      answer = record {
        none = refl;
        told = record {
          jobs = jobs;
          read = subst Read c.deref.ensures.value c.in_ok-jobs.ensures.read;
          outcomes = outcomes;
          answered = answered;
          printed = refl;
          answer = refl;
        };
      };
      prints = answered;
    }

-- an input that is not read as what a room takes has the room's fault, or there was no memory
input_stop : {A T : Type 0} (positive : A → Bool) (text : A → List ℕ) (printable : A → Type 0) (row : RoomRow) (Holds : T → Type 0) (given input : List ℕ) (stop : Stop) → row.reads ≡ true → given ≡ input →
    Gives Holds (row.fails given) (Err stop) → GivesAnswer positive text printable row input (Err stop)
input_stop positive text printable row Holds given input (Text fault) reads same h = (subst (λ (i : List ℕ). row.fails i fault) same h, reads)
input_stop positive text printable row Holds given input NoMemory reads same h = tt
input_stop positive text printable row Holds given input ReadFault reads same h = h
input_stop positive text printable row Holds given input (Words stop) reads same h = h
input_stop positive text printable row Holds given input (Counter stop) reads same h = absurd h

pub returns-in_err-jobs : goal.returns-in_err-jobs
returns-in_err-jobs g c =
    let given = c.deref.result.now in
    let p = err_from_is_err_and c.from_residual.result c.from_residual.ensures.1 in
    rw (p.1, p.2) (input_stop (λ (batched : Batched). list_all (λ (outcome : Outcome). is_unique outcome.verdict) batched.outcomes.items) (λ (batched : Batched). batch_text batched.jobs.items batched.outcomes.items) (λ (batched : Batched). AnswerEach batched.jobs.items batched.outcomes.items)
    (batch_row c.args.self.now.workers) (λ (jobs : Vec Job Global). IsBatch given jobs.items) given c.args.input.items c.in_err-jobs.field-0.0 refl c.deref.ensures.value c.in_err-jobs.ensures.read)
