-- What is printed of the answers to a batch, one after another.
use Rattle.std.proofs.Common.{◌≡◌, ℕ, zero, suc, ◌+◌, ◌≤◌, List, [], ◌∷◌, ◌++◌, length, drop, slice_get, Some, None, Option, Ok, refl, ap, sym, ◌∙◌, arith, add-one, append-nil}
use Rattle.std.specs.Prelude.{flat_map, zip}
use Rattle.std.specs.List.{enumerate_from}
use Rattle.std.specs.Io.KnownBytes.{Appends}
use Rattle.tile_io.specs.Chunks.{PassesOn}
use Rattle.unique_law.specs.Outcomes.{Outcome}
use Rattle.job_board.specs.declared.job.Job.{Job}
use Rattle.job_board.specs.AnswerText.{answer_text}

-- the answers to jobs that are numbered from this one on
abbrev pub answers_from : ℕ → List Job → List Outcome → List ℕ
answers_from number jobs outcomes = flat_map answer_text (enumerate_from number (zip jobs outcomes))

Appends-nothing : (written : Option (List ℕ)) → Appends written written []
Appends-nothing None = tt
Appends-nothing (Some bytes) = sym (append-nil bytes)

-- nothing was taken
pub PassesOn-nothing : {S E : Type 0} (written : S → Option (List ℕ)) (faults : S → ℕ) (sink : S) (held : List ℕ) → PassesOn {T = Unit {0}} {E = E} written faults sink sink held held (Ok tt) []
PassesOn-nothing written faults sink held =
    record { taken = ([], Appends-nothing (written sink), append-nil held); front = tt; dropped = tt; cause = record { failed = tt; later = omega arith } }

-- no answers to no jobs
pub answers-empty : (jobs : List Job) (outcomes : List Outcome) → slice_get jobs 0 ≡ None → [] ≡ answers_from 0 jobs outcomes
answers-empty [] outcomes none = refl
answers-empty (job ∷ jobs) outcomes none = absurd (cc none)

-- the answers from one number on begin with that of this number
answers-suc : (number k : ℕ) (jobs : List Job) (outcomes : List Outcome) (job : Job) (outcome : Outcome) → slice_get jobs k ≡ Some job → slice_get outcomes k ≡ Some outcome →
    answers_from number (drop k jobs) (drop k outcomes) ≡ answer_text (number, (job, outcome)) ++ answers_from (number + 1) (drop (suc k) jobs) (drop (suc k) outcomes)
answers-suc number k [] outcomes job outcome here there = absurd cc
answers-suc number k (x ∷ jobs) [] job outcome here there = absurd cc
answers-suc number zero (x ∷ jobs) (y ∷ outcomes) job outcome here there =
    let one : x ≡ job = cc in
    let other : y ≡ outcome = cc in
    ap (λ j. answer_text (number, (j, y)) ++ answers_from (number + 1) jobs outcomes) one ∙ ap (λ o. answer_text (number, (job, o)) ++ answers_from (number + 1) jobs outcomes) other
answers-suc number (suc k) (x ∷ jobs) (y ∷ outcomes) job outcome here there = answers-suc number k jobs outcomes job outcome here there

pub answers-next : (number k : ℕ) (jobs : List Job) (outcomes : List Outcome) (job : Job) (outcome : Outcome) → slice_get jobs k ≡ Some job → slice_get outcomes k ≡ Some outcome →
    answers_from number (drop k jobs) (drop k outcomes) ≡ answer_text (number, (job, outcome)) ++ answers_from (number + 1) (drop (k + 1) jobs) (drop (k + 1) outcomes)
answers-next number k jobs outcomes job outcome here there = rw (add-one k) (answers-suc number k jobs outcomes job outcome here there)

answers-none : (number : ℕ) (jobs : List Job) → answers_from number jobs [] ≡ []
answers-none number [] = refl
answers-none number (x ∷ jobs) = refl

-- and behind the last one there is none
pub answers-end : (number k : ℕ) (jobs : List Job) (outcomes : List Outcome) → length jobs ≤ k → answers_from number (drop k jobs) (drop k outcomes) ≡ []
answers-end number zero [] outcomes past = refl
answers-end number (suc k) [] outcomes past = refl
answers-end number zero (x ∷ jobs) outcomes past = absurd (omega arith)
answers-end number (suc k) (x ∷ jobs) [] past = answers-none number (drop k jobs)
answers-end number (suc k) (x ∷ jobs) (y ∷ outcomes) past = answers-end number k jobs outcomes (omega arith)
