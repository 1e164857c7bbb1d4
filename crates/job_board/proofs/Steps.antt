-- A board after one move more.
use Rattle.std.proofs.Common.{◌≡◌, ◌≢◌, ℕ, zero, suc, ◌+◌, ◌*◌, ◌<◌, ◌≤◌, true, false, List, [], ◌∷◌, ◌++◌, length, map, replicate, slice_get, Some, refl, ap, sym, ◌∙◌, subst, arith, get_or, length-append, length-set, inl, inr}
use Rattle.std.proofs.Math.ListN.{set}
use Rattle.std.proofs.lemmas.Bool.{cases_eq}
use Rattle.std.proofs.lemmas.List.{map-set, length-map, length-replicate}
use Rattle.std.proofs.lemmas.List.Sums.{sum_by-set}
use Rattle.std.proofs.lemmas.List.Folds.{sum_by-replicate}
use Rattle.std.proofs.lemmas.Option.{get_or_from_slice_get, slice_get_within, slice_get-map}
use Rattle.std.specs.Prelude.{sum_by}
use Rattle.std.specs.Option.{option_map}
use Rattle.job_board.specs.declared.job.Job.{Job}
use Rattle.job_board.specs.declared.journal.Move.{Move}
use Rattle.job_board.specs.declared.state.State.{State}
use Rattle.job_board.specs.declared.state.State.TheVariants.{Waiting, Out, Done}
use Rattle.job_board.specs.Answers.{Answers}
use Rattle.unique_law.specs.Outcomes.{Outcome}
use Rattle.job_board.specs.Boards.{Stage, waits, is_out, is_done, stage_of, IsLeastWaiting, IsLegalMove, moved, moved_by, IsLegalFrom, all_waiting, BoardValue, stages, EachAnswers, IsKept, IsReady, moves_left, NoneWaits}
use Rattle.job_board.specs.Boards.{after, came_back, went_out}

-- lists, read at a place after a write
pub slice_get-set_same : {A : Type 0} (xs : List A) (i : ℕ) (v : A) → i < length xs → slice_get (set xs i v) i ≡ Some v
slice_get-set_same [] i v h = absurd (omega arith)
slice_get-set_same (x ∷ xs) zero v h = refl
slice_get-set_same (x ∷ xs) (suc i) v h = slice_get-set_same xs i v (omega arith)

pub slice_get-set_other : {A : Type 0} (xs : List A) (i k : ℕ) (v : A) → k ≢ i → slice_get (set xs i v) k ≡ slice_get xs k
slice_get-set_other [] i k v h = refl
slice_get-set_other (x ∷ xs) zero zero v h = absurd (h refl)
slice_get-set_other (x ∷ xs) zero (suc k) v h = refl
slice_get-set_other (x ∷ xs) (suc i) zero v h = refl
slice_get-set_other (x ∷ xs) (suc i) (suc k) v h = slice_get-set_other xs i k v (λ e. h (ap suc e))

pub slice_get-replicate : {A : Type 0} (n k : ℕ) (v : A) → k < n → slice_get (replicate n v) k ≡ Some v
slice_get-replicate zero k v h = absurd (omega arith)
slice_get-replicate (suc n) zero v h = refl
slice_get-replicate (suc n) (suc k) v h = slice_get-replicate n k v (omega arith)

-- one move more
pub moved_by-append : (s : List Stage) (ms : List Move) (m : Move) → moved_by s (ms ++ m ∷ []) ≡ moved (moved_by s ms) m
moved_by-append s [] m = refl
moved_by-append s (x ∷ ms) m = moved_by-append (moved s x) ms m

pub IsLegalFrom-append : (s : List Stage) (ms : List Move) (m : Move) → IsLegalFrom s ms → IsLegalMove (moved_by s ms) m → IsLegalFrom s (ms ++ m ∷ [])
IsLegalFrom-append s [] m legal now = (now, tt)
IsLegalFrom-append s (x ∷ ms) m legal now = (legal.0, IsLegalFrom-append (moved s x) ms m legal.1 now)

-- a move that is legal, and whose outcome answers, keeps a board
pub IsKept-after : (b : BoardValue) (s : State) (m : Move) → IsKept b → moved (stages b) m ≡ set (stages b) m.job (stage_of s) → IsLegalMove (stages b) m → EachAnswers b.jobs (set b.states m.job s) → IsKept (after b s m)
IsKept-after b s m kept stage legal answers =
    let start = all_waiting (length b.jobs) in
    let here : IsLegalMove (moved_by start b.journal) m = let P : List Stage → Type 0 = λ w. IsLegalMove w m in subst P (sym kept.replays) legal in
    record {
      legal = IsLegalFrom-append start b.journal m kept.legal here;
      replays = moved_by-append start b.journal m ∙ (ap (λ w. moved w m) kept.replays ∙ (stage ∙ sym (map-set stage_of b.states m.job s)));
      answers = answers;
    }

-- a job that goes out leaves the outcomes as they are
pub EachAnswers-out : (jobs : List Job) (states : List State) (job worker : ℕ) → job < length states → EachAnswers jobs states → EachAnswers jobs (set states job (Out worker))
EachAnswers-out jobs states job worker within answers k given outcome is found =
    elim (cases_eq k job) [
      | inl same ↦ absurd (let e = slice_get-set_same states job (Out worker) within in let at : slice_get (set states job (Out worker)) job ≡ Some (Done outcome) = subst (λ (n : ℕ). slice_get (set states job (Out worker)) n ≡ Some (Done outcome)) same found in cc)
      | inr other ↦ answers k given outcome is (sym (slice_get-set_other states job k (Out worker) other) ∙ found)
    ]

-- and so does an outcome that is taken out
pub EachAnswers-without : (jobs : List Job) (states : List State) (job : ℕ) → job < length states → EachAnswers jobs states → EachAnswers jobs (set states job Waiting)
EachAnswers-without jobs states job within answers k given outcome is found =
    elim (cases_eq k job) [
      | inl same ↦ absurd (let e = slice_get-set_same states job Waiting within in let at : slice_get (set states job Waiting) job ≡ Some (Done outcome) = subst (λ (n : ℕ). slice_get (set states job Waiting) n ≡ Some (Done outcome)) same found in cc)
      | inr other ↦ answers k given outcome is (sym (slice_get-set_other states job k Waiting other) ∙ found)
    ]

-- an outcome that answers its job joins the others
pub EachAnswers-done : (jobs : List Job) (states : List State) (job : ℕ) (outcome : Outcome) → job < length states → ((own : Job) → slice_get jobs job ≡ Some own → Answers own.sys outcome) → EachAnswers jobs states → EachAnswers jobs (set states job (Done outcome))
EachAnswers-done jobs states job outcome within own_answers answers k given found is at =
    elim (cases_eq k job) [
      | inl same ↦
          let e = slice_get-set_same states job (Done outcome) within in
          let at' : slice_get (set states job (Done outcome)) job ≡ Some (Done found) = subst (λ (n : ℕ). slice_get (set states job (Done outcome)) n ≡ Some (Done found)) same at in
          let is' : slice_get jobs job ≡ Some given = subst (λ (n : ℕ). slice_get jobs n ≡ Some given) same is in
          let same_outcome : outcome ≡ found = cc in
          subst (λ (o : Outcome). Answers given.sys o) same_outcome (own_answers given is')
      | inr other ↦ answers k given found is (sym (slice_get-set_other states job k (Done outcome) other) ∙ at)
    ]

-- the least waiting job is the next one
pub next_is_least : (b : BoardValue) (next capacity : ℕ) → IsReady b next capacity → next < length b.jobs → IsLeastWaiting (stages b) next
next_is_least b next capacity ready h = record { here = ready.waiting next (omega arith) h; none_before = ready.passed }

pub IsKept-take : (b : BoardValue) (next capacity worker : ℕ) → IsKept b → IsReady b next capacity → next < length b.jobs → IsKept (after b (Out worker) (went_out worker next))
IsKept-take b next capacity worker kept ready h =
    let within : next < length b.states = omega arith in
    IsKept-after b (Out worker) (went_out worker next) kept refl (next_is_least b next capacity ready h) (EachAnswers-out b.jobs b.states next worker within kept.answers)

-- what a job still has to move is a part of what all have to
pub left_at : (stages : List Stage) (job : ℕ) (stage new : Stage) → slice_get stages job ≡ Some stage → sum_by moves_left (set stages job new) + moves_left stage ≡ sum_by moves_left stages + moves_left new
left_at stages job stage new here =
    let within : job < length stages = slice_get_within stages job stage here in
    let is : get_or stages job is_done ≡ stage = get_or_from_slice_get stages job stage is_done here in
    let P : Stage → Type 0 = λ w. sum_by moves_left (set stages job new) + moves_left w ≡ sum_by moves_left stages + moves_left new in
    subst P is (sum_by-set moves_left stages job new is_done within)

-- there is room for what a job still has to move
pub room_for : (b : BoardValue) (next capacity job : ℕ) (stage : Stage) → IsReady b next capacity → slice_get (stages b) job ≡ Some stage → length b.journal + moves_left stage ≤ capacity
room_for b next capacity job stage ready here = omega (arith, left_at (stages b) job stage is_done here, ready.counted, ready.room)

pub counted-after : (b : BoardValue) (stage : Stage) (s : State) (m : Move) → length b.journal + sum_by moves_left (stages b) ≡ 2 * length b.jobs → slice_get (stages b) m.job ≡ Some stage → moves_left stage ≡ moves_left (stage_of s) + 1
    → length (after b s m).journal + sum_by moves_left (stages (after b s m)) ≡ 2 * length b.jobs
counted-after b stage s m counted here one =
    let e = left_at (stages b) m.job stage (stage_of s) here in
    rw map-set (omega (arith, e, counted, one, length-append b.journal (m ∷ [])))

-- where a stage was read after a write
pub stage-set_same : (states : List State) (job : ℕ) (s : State) → job < length states → slice_get (map stage_of (set states job s)) job ≡ Some (stage_of s)
stage-set_same states job s within = rw map-set (slice_get-set_same (map stage_of states) job (stage_of s) (rw length-map within))

pub stage-set_other : (states : List State) (job k : ℕ) (s : State) → k ≢ job → slice_get (map stage_of (set states job s)) k ≡ slice_get (map stage_of states) k
stage-set_other states job k s other = rw map-set (slice_get-set_other (map stage_of states) job k (stage_of s) other)

pub IsReady-take : (b : BoardValue) (next capacity worker : ℕ) → IsReady b next capacity → next < length b.jobs → IsReady (after b (Out worker) (went_out worker next)) (next + 1) capacity
IsReady-take b next capacity worker ready h =
    let within : next < length b.states = omega (arith, ready.one_each) in
    record {
      few = ready.few;
      one_each = length-set b.states next (Out worker) ∙ ready.one_each;
      next_is_in = omega arith;
      passed = λ k below. elim (cases_eq k next) [
        | inl same ↦ λ is. absurd (let at : slice_get (map stage_of (set b.states next (Out worker))) next ≡ Some waits = subst (λ (n : ℕ). slice_get (map stage_of (set b.states next (Out worker))) n ≡ Some waits) same is in cc (at, stage-set_same b.states next (Out worker) within))
        | inr other ↦ λ is. let lower : k < next = omega arith in ready.passed k lower (sym (stage-set_other b.states next k (Out worker) other) ∙ is)
      ];
      waiting = λ k above below. let other : k ≢ next = λ e. absurd (omega arith) in stage-set_other b.states next k (Out worker) other ∙ ready.waiting k (omega arith) below;
      counted = counted-after b waits (Out worker) (went_out worker next) ready.counted (ready.waiting next (omega arith) h) refl;
      room = ready.room;
    }

-- the stage of a state
pub stage_at : (states : List State) (job : ℕ) (s : State) → slice_get states job ≡ Some s → slice_get (map stage_of states) job ≡ Some (stage_of s)
stage_at states job s here = slice_get-map stage_of states job ∙ ap (option_map stage_of) here

pub IsReady-put : (b : BoardValue) (next capacity job worker : ℕ) (outcome : Outcome) → IsReady b next capacity → slice_get b.states job ≡ Some (Out worker) → IsReady (after b (Done outcome) (came_back worker job)) next capacity
IsReady-put b next capacity job worker outcome ready out =
    let within : job < length b.states = slice_get_within b.states job (Out worker) out in
    let stage = stage_at b.states job (Out worker) out in
    record {
      few = ready.few;
      one_each = length-set b.states job (Done outcome) ∙ ready.one_each;
      next_is_in = ready.next_is_in;
      passed = λ k below. elim (cases_eq k job) [
        | inl same ↦ λ is. absurd (let at : slice_get (map stage_of (set b.states job (Done outcome))) job ≡ Some waits = subst (λ (n : ℕ). slice_get (map stage_of (set b.states job (Done outcome))) n ≡ Some waits) same is in cc (at, stage-set_same b.states job (Done outcome) within))
        | inr other ↦ λ is. ready.passed k below (sym (stage-set_other b.states job k (Done outcome) other) ∙ is)
      ];
      waiting = λ k above below.
          let other : k ≢ job = λ e. absurd (let w : slice_get (stages b) job ≡ Some waits = subst (λ (n : ℕ). slice_get (stages b) n ≡ Some waits) e (ready.waiting k above below) in cc (w, stage)) in
          stage-set_other b.states job k (Done outcome) other ∙ ready.waiting k above below;
      counted = counted-after b (is_out worker) (Done outcome) (came_back worker job) ready.counted stage refl;
      room = ready.room;
    }

pub IsKept-put : (b : BoardValue) (job worker : ℕ) (outcome : Outcome) → IsKept b → slice_get b.states job ≡ Some (Out worker) → ((own : Job) → slice_get b.jobs job ≡ Some own → Answers own.sys outcome) → IsKept (after b (Done outcome) (came_back worker job))
IsKept-put b job worker outcome kept out answers =
    let within : job < length b.states = slice_get_within b.states job (Out worker) out in
    IsKept-after b (Done outcome) (came_back worker job) kept refl (stage_at b.states job (Out worker) out) (EachAnswers-done b.jobs b.states job outcome within answers kept.answers)

-- at the end no job waits
pub NoneWaits-end : (b : BoardValue) (next capacity : ℕ) → IsReady b next capacity → length b.jobs ≤ next → NoneWaits b
NoneWaits-end b next capacity ready end k is =
    let within : k < length (stages b) = slice_get_within (stages b) k waits is in
    let lower : k < next = omega (arith, length-map b.states stage_of, ready.one_each) in
    ready.passed k lower is

-- before it one waits
pub waits_before_end : (b : BoardValue) (next capacity : ℕ) → IsReady b next capacity → next < length b.jobs → NoneWaits b → ⊥
waits_before_end b next capacity ready h none = none next (ready.waiting next (omega arith) h)

-- a board on which all jobs wait
abbrev pub fresh : List Job → BoardValue
fresh jobs = record { jobs = jobs; states = replicate (length jobs) Waiting; journal = [] }

pub map-replicate : {A B : Type 0} (f : A → B) (n : ℕ) (x : A) → map f (replicate n x) ≡ replicate n (f x)
map-replicate f zero x = refl
map-replicate f (suc n) x = ap (λ w. f x ∷ w) (map-replicate f n x)

pub done_is_none : (n k : ℕ) (outcome : Outcome) → slice_get (replicate n Waiting) k ≡ Some (Done outcome) → ⊥
done_is_none n k outcome h =
    let within : k < length (replicate n Waiting) = slice_get_within (replicate n Waiting) k (Done outcome) h in
    let below : k < n = omega (arith, length-replicate n Waiting) in
    absurd (cc (h, slice_get-replicate n k Waiting below))

pub IsKept-fresh : (jobs : List Job) → IsKept (fresh jobs)
IsKept-fresh jobs = record {
  legal = tt;
  replays = sym (map-replicate stage_of (length jobs) Waiting);
  answers = λ k job outcome is done. absurd (done_is_none (length jobs) k outcome done);
}

pub IsReady-fresh : (jobs : List Job) (capacity : ℕ) → length jobs ≤ 1024 → 2 * length jobs ≤ capacity → IsReady (fresh jobs) 0 capacity
IsReady-fresh jobs capacity few room = record {
  few = few;
  one_each = length-replicate (length jobs) Waiting;
  next_is_in = omega arith;
  passed = λ k below. absurd (omega arith);
  waiting = λ k above below. rw map-replicate (slice_get-replicate (length jobs) k waits below);
  counted = rw map-replicate (omega (arith, sum_by-replicate moves_left (length jobs) waits));
  room = room;
}
