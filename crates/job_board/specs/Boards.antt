-- Boards: the moves of their journals, and what those lead to.
use Rattle.std.specs.Prelude.{◌≡◌, ◌≢◌, ℕ, ◌<◌, ◌+◌, ◌*◌, ◌≤◌, MatchBool, true, false, List, [], ◌∷◌, ◌++◌, length, map, replicate, slice_get, slice_set, Some, sum_by, if◌then◌else◌}
use Rattle.job_board.specs.declared.job.Job.{Job}
use Rattle.job_board.specs.declared.journal.Move.{Move}
use Rattle.job_board.specs.declared.state.State.{State}
use Rattle.job_board.specs.declared.state.State.TheVariants.{Waiting, Out, Done}
use Rattle.job_board.specs.Answers.{Answers}
use Rattle.unique_law.specs.Outcomes.{Outcome}

-- the state of a job with the outcome left out
pub data Stage : Type 0 where
  waits : Stage
  is_out : ℕ → Stage
  is_done : Stage

abbrev pub stage_of : State → Stage
stage_of Waiting = waits
stage_of (Out worker) = is_out worker
stage_of (Done outcome) = is_done

-- the moves of a job to a worker, and from it
abbrev pub went_out : ℕ → ℕ → Move
went_out worker job = record { worker = worker; job = job; gave = false }

abbrev pub came_back : ℕ → ℕ → Move
came_back worker job = record { worker = worker; job = job; gave = true }

-- the job of this number is the least waiting one
pub record IsLeastWaiting (stages : List Stage) (job : ℕ) : Type 0 where
  pub here : slice_get stages job ≡ Some waits
  pub none_before : (k : ℕ) → k < job → slice_get stages k ≢ Some waits

-- A job goes out where it is the least waiting one; an outcome comes where the job is out to the worker who gives it.
abbrev pub IsLegalMove : List Stage → Move → Type 0
IsLegalMove stages m = MatchBool m.gave (slice_get stages m.job ≡ Some (is_out m.worker)) (IsLeastWaiting stages m.job)

-- the stages after a move
abbrev pub moved : List Stage → Move → List Stage
moved stages m = slice_set stages m.job (if m.gave then is_done else is_out m.worker)

-- the stages after moves
abbrev pub moved_by : List Stage → List Move → List Stage
moved_by stages [] = stages
moved_by stages (m ∷ ms) = moved_by (moved stages m) ms

abbrev pub IsLegalFrom : List Stage → List Move → Type 0
IsLegalFrom stages [] = Unit {0}
IsLegalFrom stages (m ∷ ms) = IsLegalMove stages m × IsLegalFrom (moved stages m) ms

-- so many jobs, which all wait
abbrev pub all_waiting : ℕ → List Stage
all_waiting count = replicate count waits

-- the stages that a journal of so many jobs leads to
abbrev pub replay : ℕ → List Move → List Stage
replay count journal = moved_by (all_waiting count) journal

-- what contracts see of a board
pub record BoardValue : Type 0 where
  pub jobs : List Job
  pub states : List State
  pub journal : List Move

-- the board after a move of a job, which has this state then
abbrev pub after : BoardValue → State → Move → BoardValue
after board state m = record {
  jobs = board.jobs;
  states = slice_set board.states m.job state;
  journal = board.journal ++ m ∷ [];
}

-- the board once this job went out to a worker
abbrev pub sent_out : BoardValue → ℕ → ℕ → BoardValue
sent_out board job worker = after board (Out worker) (went_out worker job)

-- and once its worker gave this outcome
abbrev pub given_back : BoardValue → ℕ → ℕ → Outcome → BoardValue
given_back board job worker outcome = after board (Done outcome) (came_back worker job)

abbrev pub stages : BoardValue → List Stage
stages board = map stage_of board.states

-- no job waits
abbrev pub NoneWaits : BoardValue → Type 0
NoneWaits board = (k : ℕ) → slice_get (stages board) k ≢ Some waits

-- each outcome answers its own job
abbrev pub EachAnswers : List Job → List State → Type 0
EachAnswers jobs states = (k : ℕ) (job : Job) (outcome : Outcome) → slice_get jobs k ≡ Some job → slice_get states k ≡ Some (Done outcome) → Answers job.sys outcome

-- What each board keeps: its journal is legal and leads to the states with outcomes left out, and each outcome answers its own job.
pub record IsKept (board : BoardValue) : Type 0 where
  pub legal : IsLegalFrom (all_waiting (length board.jobs)) board.journal
  pub replays : replay (length board.jobs) board.journal ≡ stages board
  pub answers : EachAnswers board.jobs board.states

-- how many moves a job still has to make
abbrev pub moves_left : Stage → ℕ
moves_left waits = 2
moves_left (is_out worker) = 1
moves_left is_done = 0

-- What the code keeps beside it: there is room for each move that is left, and the jobs from `next` on are those that wait.
pub record IsReady (board : BoardValue) (next capacity : ℕ) : Type 0 where
  pub few : length board.jobs ≤ 1024
  pub one_each : length board.states ≡ length board.jobs
  pub next_is_in : next ≤ length board.jobs
  pub passed : (k : ℕ) → k < next → slice_get (stages board) k ≢ Some waits
  pub waiting : (k : ℕ) → next ≤ k → k < length board.jobs → slice_get (stages board) k ≡ Some waits
  pub counted : length board.journal + sum_by moves_left (stages board) ≡ 2 * length board.jobs
  pub room : 2 * length board.jobs ≤ capacity

-- both of these
abbrev pub IsBoard : BoardValue → ℕ → ℕ → Type 0
IsBoard board next capacity = IsKept board × IsReady board next capacity

-- what contracts see of a ticket
pub record TicketValue : Type 0 where
  pub job : ℕ
  pub worker : ℕ
  pub given : Job

-- the ticket's number is a job of the board, which is out to the ticket's worker
abbrev pub IsOutBy : BoardValue → TicketValue → Type 0
IsOutBy board ticket = slice_get board.states ticket.job ≡ Some (Out ticket.worker)

-- the board's job of the ticket's number is the ticket's
abbrev pub IsOfBoard : BoardValue → TicketValue → Type 0
IsOfBoard board ticket = slice_get board.jobs ticket.job ≡ Some ticket.given
