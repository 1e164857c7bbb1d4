-- Each text reads as one batch, or has one fault.
use Rattle.std.proofs.Common.{◌≡◌, ◌⊎◌, ℕ, zero, suc, ◌+◌, ◌-◌, ◌<◌, ◌≤◌, Bool, true, false, if◌then◌else◌, List, [], ◌∷◌, ◌++◌, All, length, Option, Some, None, Result, Ok, Err, refl, ap, ap₂, sym, ◌∙◌, subst, arith, inl, inr, append-nil, length-append}
use Rattle.std.specs.Prelude.{bytes_eq, nat_lt}
use Rattle.std.specs.Option.{option_map_or, option_transpose}
use Rattle.std.proofs.lemmas.Bool.{ltb-true}
use Rattle.std.proofs.lemmas.List.Elements.{All-head}
use Rattle.std.proofs.lemmas.List.Sums.{sum_by-append, sum_by-cons}
use Rattle.tile_io.specs.declared.fault.Cause.{Cause}
use Rattle.tile_io.specs.declared.fault.Cause.TheVariants.{NoHeader, NoEnd, BadLine, OutOfOrder, TooMany}
use Rattle.tile_io.specs.declared.mark.Mark.{Mark}
use Rattle.tile_io.specs.Checks.{◌>>=◌, Keyword, by_header, check_line, nothing_more, require}
use Rattle.tile_io.specs.Formats.{Fault, Format, IsFaulty, IsRead, Reads, line_item}
use Rattle.tile_io.specs.Lines.{TextLine, is_skipped, lines_from, plain_cause, words_of}
use Rattle.tile_io.specs.Rest.{HasNoMore}
use Rattle.tile_io.proofs.Checking.{check_keyword}
use Rattle.tile_io.proofs.Laws.{fails_once, not_both, read_or_faulty, reads_once}
use Rattle.tile_io.proofs.Progress.{passes_nothing}
use Rattle.atam.specs.TileSystem.{TileSystem}
use Rattle.assembly.specs.Cells.{cell_count}
use Rattle.tile_text.specs.declared.version.Version.{Version}
use Rattle.tile_text.specs.declared.version.Version.TheVariants.{One, Two}
use Rattle.tile_text.specs.SystemText.{ReadsAny, ReadsVersion, system_format, system_table}
use Rattle.tile_text.proofs.Eithers.{any_not_both, any_one, any_one_fault, any_one_system}
use Rattle.job_board.specs.declared.job.Job.{Job}
use Rattle.job_board.specs.declared.limits.TheConstants.{MOST_JOBS, MOST_SITES}
use Rattle.job_board.specs.declared.position.Position.{Position}
use Rattle.job_board.specs.declared.position.Position.TheVariants.{AtStart, Behind}
use Rattle.job_board.specs.declared.position.BatchItem.{BatchItem}
use Rattle.job_board.specs.declared.position.BatchItem.TheVariants.{Header, JobLine}
use Rattle.job_board.specs.BatchLines.{ReadsLine, batch_format, batch_table, row_at}
use Rattle.job_board.specs.BatchText.{BeginsBatch, FailsNext, FaultBatch, IsFaultyBatch, IsReadBatch, ReadsBatch, ReadsJob, ReadsJobs, sites_of, FailsSystem}
use Rattle.job_board.specs.Inner.FoundLines.{IsFoundAt}
use Rattle.job_board.specs.Inner.Reading.{FindsEnd}
use Rattle.job_board.proofs.Reading.{ReadsJobs-more, batch_ends, batch_fails, no_header, sites_more, something_more}

-- where only empty lines and remarks follow, there is no header of a system
lacks_header : (version : Version) (text : List ℕ) (from end : Mark) → Reads nothing_more text from [] end → Fault (system_format version) text from (from.line + length (lines_from text from)) NoHeader
unfolding system_table
lacks_header version text from end (inl ended) = absurd (cc ended.ends)
lacks_header version text from end (inr done) = inr (record {
  earlier = [];
  passed = record { plain = done.passed.plain; count = done.passed.count; each = λ i words item here there. absurd (cc there); before_end = (passes_nothing (system_format version)).before_end };
  incomplete = refl;
  missing = refl;
  place = refl;
})

no_system : (text : List ℕ) (from to : Mark) (sys : TileSystem) → HasNoMore text from → ReadsAny text from sys to → ⊥
no_system text from to sys (end, none) reads =
    let number = from.line + length (lines_from text from) in
    any_not_both text from to sys number NoHeader reads (inr ((number, lacks_header One text from end none), lacks_header Two text from end none))

-- ---- one reading

-- a job reads in one way
one_job : (text : List ℕ) (from to end : Mark) (before : ℕ) (job other : Job) → ReadsJob text from before job to → ReadsJob text from before other end → (job ≡ other) × (to ≡ end)
one_job text from to end before job other reads again =
    let line = reads_once _ text from _ _ reads.behind again.behind reads.line again.line in
    let choice : job.choice ≡ other.choice = cc line.0 in
    let here : ReadsAny text reads.behind other.sys end = subst (λ (mark : Mark). ReadsAny text mark other.sys end) (sym line.1) again.system in
    let system = any_one_system text reads.behind to end job.sys other.sys reads.system here in
    let made : TileSystem → ℕ → Job = λ sys number. record { sys = sys; choice = number } in
    (ap₂ made system.0 choice, system.1)

-- where a job is, the input does not end
no_end : (text : List ℕ) (from to : Mark) (jobs : List Job) (job : Job) → ReadsJob text from (length jobs) job to → FindsEnd text from jobs → ⊥
no_end text from to jobs job reads ends =
    let line = reads_once _ text from _ _ reads.behind ends.end reads.line ends.ends in
    absurd (cc line.0)

-- a list of jobs goes on behind another one
record GoesOn (text : List ℕ) (at : Mark) (before : ℕ) (others jobs : List Job) (last : Mark) : Type 0 where
  more : List Job
  whole : jobs ≡ others ++ more
  reads : ReadsJobs text at (before + length others) more last

goes_on_more : (text : List ℕ) (at last : Mark) (before : ℕ) (job other : Job) (others jobs : List Job) → job ≡ other → GoesOn text at (before + 1) others jobs last →
    GoesOn text at before (other ∷ others) (job ∷ jobs) last
goes_on_more text at last before job other others jobs same goes =
    let count : before + 1 + length others ≡ before + suc (length others) = omega arith in
    record {
      more = goes.more;
      whole = ap₂ (λ (x : Job) (xs : List Job). x ∷ xs) same goes.whole;
      reads = subst (λ (n : ℕ). ReadsJobs text at n goes.more last) count goes.reads;
    }

-- all of them do behind none
goes_on_all : (text : List ℕ) (from at last : Mark) (before : ℕ) (jobs : List Job) → at ≡ from → ReadsJobs text from before jobs last → GoesOn text at before [] jobs last
goes_on_all text from at last before jobs same reads =
    let count : before ≡ before + 0 = omega arith in
    let there : ReadsJobs text at before jobs last = subst (λ (mark : Mark). ReadsJobs text mark before jobs last) (sym same) reads in
    record { more = jobs; whole = refl; reads = subst (λ (n : ℕ). ReadsJobs text at n jobs last) count there }

-- of two lists of jobs that are read from one mark on, one goes on behind the other
compare : (text : List ℕ) (from last at : Mark) (before : ℕ) (jobs others : List Job) → ReadsJobs text from before jobs last → ReadsJobs text from before others at →
    GoesOn text at before others jobs last ⊎ GoesOn text last before jobs others at
compare text from last at before jobs [] reads other = inl (goes_on_all text from at last before jobs other reads)
compare text from last at before [] (job ∷ others) reads other = inr (goes_on_all text from last at before (job ∷ others) reads other)
compare text from last at before (job ∷ jobs) (other ∷ others) (next, first, rest) (next_too, first_too, rest_too) =
    let same = one_job text from next next_too before job other first first_too in
    let here : ReadsJobs text next (before + 1) others at = subst (λ (mark : Mark). ReadsJobs text mark (before + 1) others at) (sym same.1) rest_too in
    elim (compare text next last at (before + 1) jobs others rest here) [
      | inl goes ↦ inl (goes_on_more text at last before job other others jobs same.0 goes)
      | inr goes ↦ inr (goes_on_more text last at before other job jobs others (sym same.0) goes)
    ]

-- no job is behind all of a batch
none_behind : (text : List ℕ) (from at : Mark) (jobs more : List Job) → ReadsJobs text from (0 + length jobs) more at → FindsEnd text from jobs → more ≡ []
none_behind text from at jobs [] reads ends = refl
none_behind text from at jobs (job ∷ more) (next, first, rest) ends =
    let count : 0 + length jobs ≡ length jobs = omega arith in
    absurd (no_end text from next jobs job (subst (λ (n : ℕ). ReadsJob text from n job next) count first) ends)

batch_end : (text : List ℕ) (from : Mark) (jobs : List Job) (batch : ReadsBatch text from jobs) → FindsEnd text batch.last jobs
batch_end text from jobs batch = record { some = batch.some; end = batch.end; ends = batch.ends }

-- a text is one batch
pub one_batch : (text : List ℕ) (from : Mark) (jobs others : List Job) → ReadsBatch text from jobs → ReadsBatch text from others → jobs ≡ others
one_batch text from jobs others batch other =
    let start = (reads_once _ text from _ _ batch.begins.start other.begins.start batch.begins.header other.begins.header).1 in
    let each : ReadsJobs text batch.begins.start 0 others other.last = subst (λ (mark : Mark). ReadsJobs text mark 0 others other.last) (sym start) other.begins.each in
    elim (compare text batch.begins.start batch.last other.last 0 jobs others batch.begins.each each) [
      | inl goes ↦
          let none = none_behind text other.last batch.last others goes.more goes.reads (batch_end text from others other) in
          goes.whole ∙ ap (λ (l : List Job). others ++ l) none ∙ append-nil others
      | inr goes ↦
          let none = none_behind text batch.last other.last jobs goes.more goes.reads (batch_end text from jobs batch) in
          sym (goes.whole ∙ ap (λ (l : List Job). jobs ++ l) none ∙ append-nil jobs)
    ]

-- ---- no fault

-- behind all jobs of a batch
none_at_end : (text : List ℕ) (at : Mark) (jobs : List Job) (number : ℕ) (cause : Cause) → FindsEnd text at jobs → FailsNext text at jobs number cause → ⊥
none_at_end text at jobs number cause ends (inl fault) = not_both _ text at _ ends.end number cause ends.ends fault
none_at_end text at jobs number cause ends (inr (inl (end, at_end, empty, number_is, cause_is))) =
    let none = ap (λ (l : List Job). length l) empty in
    let some = ends.some in
    absurd (omega (arith, some, none))
none_at_end text at jobs number cause ends (inr (inr (choice, behind, job_line, fails))) =
    let line = reads_once _ text at _ _ behind ends.end job_line ends.ends in
    absurd (cc line.0)

-- the sites of a list of jobs and of one behind it
sites_within : (jobs rest : List Job) (job : Job) → sites_of (jobs ++ job ∷ rest) ≤ MOST_SITES → sites_of jobs + cell_count job.sys.area ≤ MOST_SITES
sites_within jobs rest job few =
    let sites : Job → ℕ = λ one. cell_count one.sys.area in
    let all = sum_by-append sites jobs (job ∷ rest) in
    let one = sum_by-cons sites job rest in
    omega (arith, few, all, one)

-- in a job's system
none_in_system : (text : List ℕ) (at next : Mark) (jobs rest : List Job) (job : Job) (number : ℕ) (cause : Cause) → sites_of (jobs ++ job ∷ rest) ≤ MOST_SITES → ReadsJob text at (length jobs) job next →
    (choice : ℕ) (behind : Mark) → ReadsLine (Behind (length jobs)) text at (Some (JobLine choice)) behind → FailsSystem text behind jobs number cause → ⊥
none_in_system text at next jobs rest job number cause few reads choice behind job_line fails =
    let line = reads_once _ text at _ _ reads.behind behind reads.line job_line in
    let here : ReadsAny text behind job.sys next = subst (λ (mark : Mark). ReadsAny text mark job.sys next) line.1 reads.system in
    elim fails [
      | inl (end, none, number_is, cause_is) ↦ no_system text behind next job.sys (end, none) here
      | inr (inl (some, fault)) ↦ any_not_both text behind next job.sys number cause here fault
      | inr (inr (sys, to, system, many, number_is, cause_is)) ↦
          let same = (any_one_system text behind next to job.sys sys here system).0 in
          let cells = ap (λ (s : TileSystem). cell_count s.area) same in
          let fits = sites_within jobs rest job few in
          absurd (omega (arith, cells, fits, many))
    ]

-- before a job of a batch
none_before : (text : List ℕ) (at next : Mark) (jobs rest : List Job) (job : Job) (number : ℕ) (cause : Cause) → sites_of (jobs ++ job ∷ rest) ≤ MOST_SITES → ReadsJob text at (length jobs) job next →
    FailsNext text at jobs number cause → ⊥
none_before text at next jobs rest job number cause few reads (inl fault) =
    not_both _ text at _ reads.behind number cause reads.line fault
none_before text at next jobs rest job number cause few reads (inr (inl (end, at_end, empty, number_is, cause_is))) =
    let line = reads_once _ text at _ _ reads.behind end reads.line at_end in
    absurd (cc line.0)
none_before text at next jobs rest job number cause few reads (inr (inr (choice, behind, line, fails))) =
    none_in_system text at next jobs rest job number cause few reads choice behind line fails

-- where a batch goes on, or ends
none_within : (text : List ℕ) (from at : Mark) (jobs others more : List Job) (number : ℕ) (cause : Cause) (batch : ReadsBatch text from jobs) → jobs ≡ others ++ more →
    ReadsJobs text at (0 + length others) more batch.last → FailsNext text at others number cause → ⊥
none_within text from at jobs others [] number cause batch whole reads fails =
    let same : jobs ≡ others = whole ∙ append-nil others in
    let last : FindsEnd text batch.last jobs = record { some = batch.some; end = batch.end; ends = batch.ends } in
    let behind : FindsEnd text batch.last others = subst (λ (l : List Job). FindsEnd text batch.last l) same last in
    none_at_end text at others number cause (subst (λ (mark : Mark). FindsEnd text mark others) reads behind) fails
none_within text from at jobs others (job ∷ rest) number cause batch whole (next, first, reads) fails =
    let count : 0 + length others ≡ length others = omega arith in
    let few : sites_of (others ++ job ∷ rest) ≤ MOST_SITES = subst (λ (l : List Job). sites_of l ≤ MOST_SITES) whole batch.begins.few in
    none_before text at next others rest job number cause few (subst (λ (n : ℕ). ReadsJob text at n job next) count first) fails

-- a batch has no fault
pub batch_not_both : (text : List ℕ) (from : Mark) (jobs : List Job) (number : ℕ) (cause : Cause) → ReadsBatch text from jobs → FaultBatch text from number cause → ⊥
batch_not_both text from jobs number cause batch (inl fault) = not_both _ text from _ batch.begins.start number cause batch.begins.header fault
batch_not_both text from jobs number cause batch (inr (before, at, begins, fails)) =
    let start = (reads_once _ text from _ _ batch.begins.start begins.start batch.begins.header begins.header).1 in
    let others : ReadsJobs text batch.begins.start 0 before at = subst (λ (mark : Mark). ReadsJobs text mark 0 before at) (sym start) begins.each in
    elim (compare text batch.begins.start batch.last at 0 jobs before batch.begins.each others) [
      | inl goes ↦ none_within text from at jobs before goes.more number cause batch goes.whole goes.reads fails
      | inr goes ↦
          let ends = batch_end text from jobs batch in
          let none = none_behind text batch.last at jobs goes.more goes.reads ends in
          let same : before ≡ jobs = goes.whole ∙ ap (λ (l : List Job). jobs ++ l) none ∙ append-nil jobs in
          let here : at ≡ batch.last = subst (λ (l : List Job). ReadsJobs text batch.last (0 + length jobs) l at) none goes.reads in
          let there : FindsEnd text at before =
          subst (λ (mark : Mark). FindsEnd text mark before) (sym here) (subst (λ (l : List Job). FindsEnd text batch.last l) (sym same) ends)
          in
          none_at_end text at before number cause there fails
    ]

-- ---- one fault

abbrev SameFault : ℕ → ℕ → Cause → Cause → Type 0
SameFault m n a b = (m ≡ n) × (a ≡ b)

-- behind a job's line
one_in_system : (text : List ℕ) (at : Mark) (jobs : List Job) (m n : ℕ) (a b : Cause) → FailsSystem text at jobs m a → FailsSystem text at jobs n b → SameFault m n a b
one_in_system text at jobs m n a b (inl (here, none, number_is, cause_is)) (inl (there, none_too, number_is_too, cause_is_too)) =
    let end = (reads_once nothing_more text at _ _ here there none none_too).1 in
    (number_is ∙ ap (λ (mark : Mark). mark.line) end ∙ sym number_is_too, cause_is ∙ sym cause_is_too)
one_in_system text at jobs m n a b (inl (end, none, number_is, cause_is)) (inr (inl (some, fault))) = absurd (some (end, none))
one_in_system text at jobs m n a b (inl (end, none, number_is, cause_is)) (inr (inr (sys, to, reads, many, number_is_too, cause_is_too))) = absurd (no_system text at to sys (end, none) reads)
one_in_system text at jobs m n a b (inr (inl (some, fault))) (inl (end, none, number_is, cause_is)) = absurd (some (end, none))
one_in_system text at jobs m n a b (inr (inl (some, fault))) (inr (inl (some_too, other))) = any_one_fault text at m n a b fault other
one_in_system text at jobs m n a b (inr (inl (some, fault))) (inr (inr (sys, to, reads, many, number_is, cause_is))) = absurd (any_not_both text at to sys m a reads fault)
one_in_system text at jobs m n a b (inr (inr (sys, to, reads, many, number_is, cause_is))) (inl (end, none, number_is_too, cause_is_too)) = absurd (no_system text at to sys (end, none) reads)
one_in_system text at jobs m n a b (inr (inr (sys, to, reads, many, number_is, cause_is))) (inr (inl (some, fault))) = absurd (any_not_both text at to sys n b reads fault)
one_in_system text at jobs m n a b (inr (inr (sys, to, reads, many, here, cause_is))) (inr (inr (other, up_to, reads_too, many_too, there, cause_is_too))) =
    let end = ap (λ (mark : Mark). mark.line) (any_one_system text at to up_to sys other reads reads_too).1 in
    (omega (arith, end, here, there), cause_is ∙ sym cause_is_too)

-- behind jobs
one_next : (text : List ℕ) (at : Mark) (jobs : List Job) (m n : ℕ) (a b : Cause) → FailsNext text at jobs m a → FailsNext text at jobs n b → SameFault m n a b
one_next text at jobs m n a b (inl fault) (inl other) = fails_once (batch_format (Behind (length jobs))) text at m n a b fault other
one_next text at jobs m n a b (inl fault) (inr (inl (end, ends, none, number_is, cause_is))) = absurd (not_both _ text at _ end m a ends fault)
one_next text at jobs m n a b (inl fault) (inr (inr (choice, behind, line, fails))) = absurd (not_both _ text at _ behind m a line fault)
one_next text at jobs m n a b (inr (inl (end, ends, none, number_is, cause_is))) (inl fault) = absurd (not_both _ text at _ end n b ends fault)
one_next text at jobs m n a b (inr (inl (here, ends, none, number_is, cause_is))) (inr (inl (there, ends_too, none_too, number_is_too, cause_is_too))) =
    let end = (reads_once _ text at _ _ here there ends ends_too).1 in
    (number_is ∙ ap (λ (mark : Mark). mark.line) end ∙ sym number_is_too, cause_is ∙ sym cause_is_too)
one_next text at jobs m n a b (inr (inl (end, ends, none, number_is, cause_is))) (inr (inr (choice, behind, job_line, fails))) =
    let line = reads_once _ text at _ _ behind end job_line ends in
    absurd (cc line.0)
one_next text at jobs m n a b (inr (inr (choice, behind, line, fails))) (inl fault) = absurd (not_both _ text at _ behind n b line fault)
one_next text at jobs m n a b (inr (inr (choice, behind, job_line, fails))) (inr (inl (end, ends, none, number_is, cause_is))) =
    let line = reads_once _ text at _ _ behind end job_line ends in
    absurd (cc line.0)
one_next text at jobs m n a b (inr (inr (choice, behind, line, fails))) (inr (inr (other, behind_too, line_too, fails_too))) =
    let same = (reads_once _ text at _ _ behind behind_too line line_too).1 in
    one_in_system text behind jobs m n a b fails (subst (λ (mark : Mark). FailsSystem text mark jobs n b) (sym same) fails_too)

-- behind jobs, and behind those and some more
one_behind : (text : List ℕ) (at last : Mark) (jobs others more : List Job) (m n : ℕ) (a b : Cause) → sites_of jobs ≤ MOST_SITES → jobs ≡ others ++ more → ReadsJobs text at (0 + length others) more last →
    FailsNext text last jobs m a → FailsNext text at others n b → SameFault m n a b
one_behind text at last jobs others [] m n a b few whole reads fails other =
    let same : jobs ≡ others = whole ∙ append-nil others in
    let here : FailsNext text at jobs m a = subst (λ (mark : Mark). FailsNext text mark jobs m a) reads fails in
    one_next text at others m n a b (subst (λ (l : List Job). FailsNext text at l m a) same here) other
one_behind text at last jobs others (job ∷ more) m n a b few whole (next, first, rest) fails other =
    let count : 0 + length others ≡ length others = omega arith in
    let within : sites_of (others ++ job ∷ more) ≤ MOST_SITES = subst (λ (l : List Job). sites_of l ≤ MOST_SITES) whole few in
    absurd (none_before text at next others more job n b within (subst (λ (k : ℕ). ReadsJob text at k job next) count first) other)

-- a text has one fault
pub batch_one_fault : (text : List ℕ) (from : Mark) (m n : ℕ) (a b : Cause) → FaultBatch text from m a → FaultBatch text from n b → SameFault m n a b
batch_one_fault text from m n a b (inl fault) (inl other) = fails_once (batch_format AtStart) text from m n a b fault other
batch_one_fault text from m n a b (inl fault) (inr (jobs, at, begins, fails)) = absurd (not_both _ text from _ begins.start m a begins.header fault)
batch_one_fault text from m n a b (inr (jobs, at, begins, fails)) (inl fault) = absurd (not_both _ text from _ begins.start n b begins.header fault)
batch_one_fault text from m n a b (inr (jobs, at, begins, fails)) (inr (jobs_too, at_too, begins_too, fails_too)) =
    let start = (reads_once _ text from _ _ begins.start begins_too.start begins.header begins_too.header).1 in
    let each : ReadsJobs text begins.start 0 jobs_too at_too = subst (λ (mark : Mark). ReadsJobs text mark 0 jobs_too at_too) (sym start) begins_too.each in
    elim (compare text begins.start at at_too 0 jobs jobs_too begins.each each) [
      | inl goes ↦ one_behind text at_too at jobs jobs_too goes.more m n a b begins.few goes.whole goes.reads fails fails_too
      | inr goes ↦
          let same = one_behind text at at_too jobs_too jobs goes.more n m b a begins_too.few goes.whole goes.reads fails_too fails in
          (sym same.0, sym same.1)
    ]

-- ---- a batch or a fault

by_checks : (plain : Option Cause) (skipped : Bool) (checked : Result BatchItem Cause) (item : BatchItem) → option_map_or Err plain (option_transpose (if skipped then None else Some checked)) ≡ Ok (Some item) → checked ≡ Ok item
by_checks (Some cause) skipped checked item is = absurd (cc is)
by_checks None true checked item is = absurd (cc is)
by_checks None false (Ok other) item is = cc is
by_checks None false (Err cause) item is = absurd (cc is)

item_checked : (format : Format BatchItem) (earlier : List BatchItem) (line : TextLine) (item : BatchItem) → line_item format earlier line ≡ Ok (Some item) → format.check earlier (words_of line.bytes) ≡ Ok item
unfolding line_item
item_checked format earlier line item is = by_checks (plain_cause line) (is_skipped (words_of line.bytes)) (format.check earlier (words_of line.bytes)) item is

passed : (test : Bool) (cause : Cause) (next : Result BatchItem Cause) (item : BatchItem) → (require test cause >>= λ _. next) ≡ Ok item → (test ≡ true) × (next ≡ Ok item)
passed true cause next item is = (refl, is)
passed false cause next item is = absurd (cc is)

by_word : (found : Bool) (row : Keyword (List BatchItem) BatchItem) (words : List (List ℕ)) (item : BatchItem) → check_keyword (if found then Some row else None) [] words ≡ Ok item → check_keyword (Some row) [] words ≡ Ok item
by_word true row words item is = is
by_word false row words item is = absurd (cc is)

-- a line of the one keyword, with room for it
row_passed : (row : Keyword (List BatchItem) BatchItem) (words : List (List ℕ)) (item : BatchItem) → check_line (row ∷ []) [] words ≡ Ok item → (row.has_room [] words ≡ true) × (row.fields [] words ≡ Ok item)
row_passed row [] item is = absurd (cc is)
row_passed row (first ∷ rest) item is =
    let found = by_word (bytes_eq first row.word) row (first ∷ rest) item is in
    let count = passed _ BadLine _ item found in
    let follows = passed _ OutOfOrder _ item count.1 in
    passed _ TooMany _ item follows.1

headed : (check : Result BatchItem Cause) (item : BatchItem) → by_header true [] check ≡ Ok item → check ≡ Ok item
headed (Ok other) item is = is
headed (Err cause) item is = absurd (cc is)

header_is : (words : List (List ℕ)) (item : BatchItem) → (row_at AtStart).fields [] words ≡ Ok item → IsFoundAt AtStart (Some item)
header_is words item is =
    let same : Header ≡ item = cc (passed _ NoHeader (Ok Header) item is).1 in
    subst (λ (one : BatchItem). IsFoundAt AtStart (Some one)) same tt

job_item : (count : Result ℕ Cause) (item : BatchItem) → (count >>= λ choice. Ok (JobLine choice)) ≡ Ok item → (choice : ℕ) × (JobLine choice ≡ item)
job_item (Ok choice) item is = (choice, cc is)
job_item (Err cause) item is = absurd (cc is)

job_is : (jobs : ℕ) (words : List (List ℕ)) (item : BatchItem) → nat_lt jobs MOST_JOBS ≡ true → (row_at (Behind jobs)).fields [] words ≡ Ok item → IsFoundAt (Behind jobs) (Some item)
job_is jobs words item room is =
    let found = job_item _ item is in
    let less : IsFoundAt (Behind jobs) (Some (JobLine found.0)) = ltb-true jobs MOST_JOBS room in
    subst (λ (one : BatchItem). IsFoundAt (Behind jobs) (Some one)) found.1 less

item_at : (position : Position) (words : List (List ℕ)) (item : BatchItem) → (batch_format position).check [] words ≡ Ok item → IsFoundAt position (Some item)
unfolding batch_table
item_at AtStart words item is = header_is words item (row_passed (row_at AtStart) words item (headed _ item is)).1
item_at (Behind jobs) words item is =
    let row = row_passed (row_at (Behind jobs)) words item is in
    job_is jobs words item row.0 row.1

no_items : (items : List BatchItem) → All (λ item. true ≡ false) items → items ≡ []
no_items [] all = refl
no_items (item ∷ items) all = absurd (cc (All-head (λ (one : BatchItem). true ≡ false) item items all))

-- what is read at a position is one line, or none
line_found : (position : Position) (text : List ℕ) (from to : Mark) (items : List BatchItem) → Reads (batch_format position) text from items to →
    (found : Option BatchItem) × ReadsLine position text from found to × IsFoundAt position found
unfolding batch_table
line_found position text from to items (inl read) =
    let none = no_items read.earlier read.passed.before_end in
    let whole : items ≡ read.last ∷ [] = read.whole ∙ ap (λ (l : List BatchItem). l ++ read.last ∷ []) none in
    let item = item_checked (batch_format position) [] read.line read.last (subst (λ (l : List BatchItem). line_item (batch_format position) l read.line ≡ Ok (Some read.last)) none read.item) in
    (Some read.last, subst (λ (l : List BatchItem). Reads (batch_format position) text from l to) whole (inl read), item_at position (words_of read.line.bytes) read.last item)
line_found position text from to items (inr read) =
    let none = no_items items read.passed.before_end in
    (None, subst (λ (l : List BatchItem). Reads (batch_format position) text from l to) none (inr read), tt)

-- a system's text ends with a line
version_line : (version : Version) (text : List ℕ) (from to : Mark) (sys : TileSystem) → ReadsVersion version text from sys to → 1 ≤ to.line
unfolding system_table
version_line version text from to sys (inl read) = let place = ap (λ (mark : Mark). mark.line) read.place in omega (arith, place)
version_line version text from to sys (inr read) = absurd (cc read.complete)

system_line : (text : List ℕ) (from to : Mark) (sys : TileSystem) → ReadsAny text from sys to → 1 ≤ to.line
system_line text from to sys (inl reads) = version_line One text from to sys reads
system_line text from to sys (inr reads) = version_line Two text from to sys reads.1

within_or_more : (count most : ℕ) → (count ≤ most) ⊎ (most < count)
within_or_more zero most = inl (omega arith)
within_or_more (suc count) zero = inr (omega arith)
within_or_more (suc count) (suc most) = elim (within_or_more count most) [ inl within ↦ inl (omega (arith, within)) | inr more ↦ inr (omega (arith, more)) ]

-- what follows a job's line: a system with whose box there are few sites, or a fault
abbrev SystemOrFault : List ℕ → Mark → List Job → Type 0
SystemOrFault text at jobs =
    ((sys : TileSystem) × (to : Mark) × ReadsAny text at sys to × (sites_of jobs + cell_count sys.area ≤ MOST_SITES))
    ⊎ ((number : ℕ) × (cause : Cause) × FailsSystem text at jobs number cause)

sites_or_fault : (text : List ℕ) (at to : Mark) (jobs : List Job) (sys : TileSystem) → ReadsAny text at sys to → SystemOrFault text at jobs
sites_or_fault text at to jobs sys reads = elim (within_or_more (sites_of jobs + cell_count sys.area) MOST_SITES) [
  | inl few ↦ inl (sys, to, reads, few)
  | inr many ↦
      let line = system_line text at to sys reads in
      inr (to.line - 1, TooMany, inr (inr (sys, to, reads, many, omega (arith, line), refl)))
]

system_or_fault : (text : List ℕ) (at : Mark) (jobs : List Job) → IsRead nothing_more text at ⊎ IsFaulty nothing_more text at → SystemOrFault text at jobs
system_or_fault text at jobs (inl ([], end, none)) =
    inr (end.line, NoEnd, inl (end, none, refl, refl))
system_or_fault text at jobs (inl (item ∷ items, end, reads)) = absurd item
system_or_fault text at jobs (inr (number, cause, more)) = elim (any_one text at) [
  | inl (sys, to, reads) ↦ sites_or_fault text at to jobs sys reads
  | inr (line, why, fault) ↦ inr (line, why, inr (inl (something_more text at number cause more, fault)))
]

-- behind the header and some jobs the input ends
ends_here : (text : List ℕ) (from at end : Mark) (jobs : List Job) → BeginsBatch text from jobs at → ReadsLine (Behind (length jobs)) text at None end → IsReadBatch text from ⊎ IsFaultyBatch text from
ends_here text from at end [] begins ends =
    inr (end.line, NoEnd, batch_fails text from at [] end.line NoEnd begins (inr (inl (end, ends, refl, refl, refl))))
ends_here text from at end (job ∷ jobs) begins ends = inl (job ∷ jobs, batch_ends text from at (job ∷ jobs) begins (record { some = omega arith; end = end; ends = ends }))

begins_more : (text : List ℕ) (from at to : Mark) (jobs : List Job) (job : Job) → BeginsBatch text from jobs at → ReadsJob text at (length jobs) job to → sites_of jobs + cell_count job.sys.area ≤ MOST_SITES →
    BeginsBatch text from (jobs ++ job ∷ []) to
begins_more text from at to jobs job begins reads few =
    let same : length jobs ≡ 0 + length jobs = omega arith in
    record {
      start = begins.start;
      header = begins.header;
      each = ReadsJobs-more text begins.start at to 0 jobs job begins.each (subst (λ (n : ℕ). ReadsJob text at n job to) same reads);
      few = omega (arith, sites_more jobs job, few);
    }

-- the next line, and then what follows it, where that is told of all jobs with one more
by_line : (text : List ℕ) (from at to : Mark) (jobs : List Job) (found : Option BatchItem) → BeginsBatch text from jobs at → ReadsLine (Behind (length jobs)) text at found to → IsFoundAt (Behind (length jobs)) found →
    (length jobs < MOST_JOBS → (next : Mark) (job : Job) → BeginsBatch text from (jobs ++ job ∷ []) next → IsReadBatch text from ⊎ IsFaultyBatch text from) → IsReadBatch text from ⊎ IsFaultyBatch text from
by_line text from at to jobs None begins reads is onward = ends_here text from at to jobs begins reads
by_line text from at to jobs (Some Header) begins reads is onward = absurd is
by_line text from at to jobs (Some (JobLine choice)) begins reads is onward = elim (system_or_fault text to jobs (read_or_faulty nothing_more text to)) [
  | inl (sys, next, system, few) ↦
      let job : Job = record { sys = sys; choice = choice } in
      onward is next job (begins_more text from at next jobs job begins (record { behind = to; line = reads; system = system }) few)
  | inr (number, cause, fails) ↦ inr (number, cause, batch_fails text from at jobs number cause begins (inr (inr (choice, to, reads, fails))))
]

by_next : (text : List ℕ) (from at : Mark) (jobs : List Job) → BeginsBatch text from jobs at →
    (length jobs < MOST_JOBS → (next : Mark) (job : Job) → BeginsBatch text from (jobs ++ job ∷ []) next → IsReadBatch text from ⊎ IsFaultyBatch text from) → IsReadBatch text from ⊎ IsFaultyBatch text from
by_next text from at jobs begins onward = elim (read_or_faulty (batch_format (Behind (length jobs))) text at) [
  | inl (items, to, reads) ↦ let line = line_found (Behind (length jobs)) text at to items reads in by_line text from at to jobs line.0 begins line.1 line.2 onward
  | inr (number, cause, fault) ↦ inr (number, cause, batch_fails text from at jobs number cause begins (inl fault))
]

-- a batch or a fault, where there is room for so many jobs more
goes_on : (left : ℕ) (text : List ℕ) (from at : Mark) (jobs : List Job) → length jobs + left ≡ MOST_JOBS → BeginsBatch text from jobs at → IsReadBatch text from ⊎ IsFaultyBatch text from
goes_on zero text from at jobs count begins = by_next text from at jobs begins (λ room next job more. absurd (omega (arith, count, room)))
goes_on (suc left) text from at jobs count begins =
    by_next text from at jobs begins (λ room next job more. goes_on left text from next (jobs ++ job ∷ []) (omega (arith, count, length-append jobs (job ∷ []))) more)

at_start : (text : List ℕ) (from to : Mark) (found : Option BatchItem) → ReadsLine AtStart text from found to → IsFoundAt AtStart found → IsReadBatch text from ⊎ IsFaultyBatch text from
at_start text from to None reads is = absurd (no_header text from to reads)
at_start text from to (Some Header) reads is = goes_on MOST_JOBS text from to [] (omega arith) (record { start = to; header = reads; each = refl; few = omega arith })
at_start text from to (Some (JobLine choice)) reads is = absurd is

pub batch_or_fault : (text : List ℕ) (from : Mark) → IsReadBatch text from ⊎ IsFaultyBatch text from
batch_or_fault text from = elim (read_or_faulty (batch_format AtStart) text from) [
  | inl (items, to, reads) ↦ let line = line_found AtStart text from to items reads in at_start text from to line.0 line.1 line.2
  | inr (number, cause, fault) ↦ inr (number, cause, inl fault)
]
