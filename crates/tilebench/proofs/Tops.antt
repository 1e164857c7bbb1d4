-- From the run of a command, or a stop at the words, to the clauses of the top call.
use Rattle.std.proofs.Common.{◌≡◌, ◌≢◌, ◌⊎◌, ◌≤◌, ℕ, Bool, true, false, List, Option, None, Result, Err, refl, sym, ap, subst, arith, inl, inr}
use Rattle.tile_io.specs.Faults.{Rose}
use Rattle.fan_out.specs.declared.worker_count.WorkerCount.{WorkerCount}
use Rattle.command_line.specs.declared.commands.Command.{Command}
use Rattle.command_line.specs.declared.commands.Command.TheVariants.{Batch, Grow, Watch}
use Rattle.command_line.specs.declared.crew.Crew.{Crew}
use Rattle.command_line.specs.declared.frame_count.FrameCount.{FrameCount}
use Rattle.command_line.specs.declared.words_stop.WordsStop.{WordsStop}
use Rattle.command_line.specs.declared.words_stop.WordsStop.TheVariants.{NoCommand, Usage, NoMemory}
use Rattle.command_line.specs.Commands.{IsCallOf, IsNoCommand, IsTaken, IsUsage, words_stop_name}
use Rattle.command_line.proofs.CallLemmas.{call_once, taken_not_usage}
use Rattle.site_table.specs.Seats.{GrownValue}
use Rattle.tilebench.specs.declared.status.Ran.{Ran}
use Rattle.tilebench.specs.declared.status.Status.{Status}
use Rattle.tilebench.specs.declared.status.Status.TheVariants as status
use Rattle.tilebench.specs.Gains.{Gains}
use Rattle.tilebench.specs.Headline.{Ends, IsAnswer, IsBatchHeadline, IsDue, IsHeadline, IsTextRefusal, IsWatchedHeadline, IsWordsRefusal, no_command, numbers, usage}
use Rattle.tilebench.specs.Inputs.{AnswersInput}
use Rattle.tilebench.specs.Rows.{AnswersLeft, FailsLeft}
use Rattle.tilebench.specs.Commands.{room_of}
use Rattle.tilebench.specs.Refusals.{IsReadingCall, refused_words}
use Rattle.tilebench.specs.Inner.Stops.{stop_of_words}
use Rattle.tilebench.specs.Statuses.{IsAnswered, answer_status}
use Rattle.tilebench.specs.Inner.Runs.{EndsCommand, IsFaultLine, IsNumbersLine}
use Rattle.tilebench.specs.Inner.Tells.{Refuses, Writes}
use Rattle.tilebench.proofs.Endings.{Ends-map, written_later}
use Rattle.tilebench.proofs.Headlines.{batch_headline, headline, watched_headline}
use Rattle.tilebench.specs.Inner.CommandRows.{batch_row, grow_row, watch_row}

-- the growth answer to what was left of the source
headline_of : (workers : WorkerCount) (grown : Option GrownValue) (left left_after : Option (List ℕ)) (is_yes : Bool) (text : List ℕ) →
    AnswersLeft (grow_row workers) grown left left_after is_yes text → AnswersInput IsHeadline left left_after is_yes text
headline_of workers grown left left_after is_yes text answer =
    record { input = answer.input; whole = answer.whole refl; answer = headline workers.count grown answer.input is_yes text answer.answer }

-- and that of a watched growth
watched_headline_of : (workers : WorkerCount) (frames : FrameCount) (grown : Option GrownValue) (left left_after : Option (List ℕ)) (is_yes : Bool) (text : List ℕ) →
    AnswersLeft (watch_row workers frames) grown left left_after is_yes text → AnswersInput (IsWatchedHeadline frames.count) left left_after is_yes text
watched_headline_of workers frames grown left left_after is_yes text answer =
    record { input = answer.input; whole = answer.whole refl; answer = watched_headline workers.count frames.count grown answer.input is_yes text answer.answer }

-- and that of a batch
batch_headline_of : (workers : WorkerCount) (grown : Option GrownValue) (left left_after : Option (List ℕ)) (is_yes : Bool) (text : List ℕ) →
    AnswersLeft (batch_row workers) grown left left_after is_yes text → AnswersInput IsBatchHeadline left left_after is_yes text
batch_headline_of workers grown left left_after is_yes text answer =
    record { input = answer.input; whole = answer.whole refl; answer = batch_headline answer.input is_yes text answer.answer.told }

module _ {S K E : Type 0} (left : S → Option (List ℕ)) (read_faults : S → ℕ) (written : K → Option (List ℕ)) (out_faults : K → ℕ) (told : E → Option (List ℕ)) (err_faults : E → ℕ)
    (words : List (List ℕ)) (source after : S) (out out_after : K) (err err_after : E) where
  abbrev Ended : S → Status → Option GrownValue → Type 0
  Ended later = Ends read_faults written out_faults told err_faults (IsAnswer words (left source) (left later)) (IsTextRefusal words (left source) (left later)) (IsWordsRefusal words)
      source later out out_after err err_after

  -- where the words call for a command
  module _ (command : Command) (called : IsCallOf words command) (ran : Ran)
      (run : EndsCommand left read_faults written out_faults told err_faults (room_of command) source after out out_after err err_after ran) where
    pub call_ended : Ended after ran.status ran.grown
    call_ended =
        Ends-map read_faults written out_faults told err_faults source after out out_after err err_after
        (λ grown. AnswersLeft (room_of command) grown (left source) (left after)) (IsAnswer words (left source) (left after))
        (IsFaultLine (FailsLeft (room_of command) (left source) (left after))) (IsTextRefusal words (left source) (left after)) (IsNumbersLine (room_of command).refuses) (IsWordsRefusal words)
        (λ grown is_yes text answer. record { command = command; called = called; answer = answer })
        (λ text line. record { command = command; called = called; fault = line.fault; fails = line.is; told = line.told })
        (λ text line. numbers command line.stop called line.is line.told) ran.status ran.grown run.ends

    abbrev Run : Status → Type 0
    Run s = Ends read_faults written out_faults told err_faults (λ grown. AnswersLeft (room_of command) grown (left source) (left after))
        (IsFaultLine (FailsLeft (room_of command) (left source) (left after))) (IsNumbersLine (room_of command).refuses)
        source after out out_after err err_after s ran.grown

    -- what holds of each answer of the command that is called holds of what was printed
    module _ (other : Command) (Said : Bool → List ℕ → Type 0)
        (says : (is_yes : Bool) (text : List ℕ) → AnswersLeft (room_of other) ran.grown (left source) (left after) is_yes text → Said is_yes text) where
      answer_said : IsCallOf words other → (is_yes : Bool) → Gains written out_faults (AnswersLeft (room_of command) ran.grown (left source) (left after) is_yes) out out_after →
          Gains written out_faults (Said is_yes) out out_after
      answer_said calls is_yes gained =
          let same : command ≡ other = call_once words command other called calls in
          let Answers : Command → Type 0 = λ c. AnswersLeft (room_of c) ran.grown (left source) (left after) is_yes gained.text in
          record { text = gained.text; said = says is_yes gained.text (subst Answers same gained.said); whole = gained.whole }

      status_said : IsCallOf words other → (is_yes : Bool) → Run (answer_status is_yes) → Gains written out_faults (Said is_yes) out out_after
      status_said calls true ends = answer_said calls true ends.0
      status_said calls false ends = answer_said calls false ends.0

      call_said : (is_yes : Bool) → IsCallOf words other → ran.status ≡ answer_status is_yes → Gains written out_faults (Said is_yes) out out_after
      call_said is_yes calls is = status_said calls is_yes (subst Run is run.ends)

    pub call_grown : (crew : Crew) (is_yes : Bool) → IsCallOf words (Grow crew) → ran.status ≡ answer_status is_yes →
        Gains written out_faults (AnswersInput IsHeadline (left source) (left after) is_yes) out out_after
    call_grown crew is_yes = call_said (Grow crew) (AnswersInput IsHeadline (left source) (left after)) (headline_of crew.workers ran.grown (left source) (left after)) is_yes

    pub call_watched : (crew : Crew) (frames : FrameCount) (is_yes : Bool) → IsCallOf words (Watch crew frames) → ran.status ≡ answer_status is_yes →
        Gains written out_faults (AnswersInput (IsWatchedHeadline frames.count) (left source) (left after) is_yes) out out_after
    call_watched crew frames is_yes =
        call_said (Watch crew frames) (AnswersInput (IsWatchedHeadline frames.count) (left source) (left after)) (watched_headline_of crew.workers frames ran.grown (left source) (left after)) is_yes

    pub call_batched : (workers : WorkerCount) (is_yes : Bool) → IsCallOf words (Batch workers) → ran.status ≡ answer_status is_yes →
        Gains written out_faults (AnswersInput IsBatchHeadline (left source) (left after) is_yes) out out_after
    call_batched workers is_yes =
        call_said (Batch workers) (AnswersInput IsBatchHeadline (left source) (left after)) (batch_headline_of workers ran.grown (left source) (left after)) is_yes

    pub call_named : IsNoCommand words → ⊥
    call_named unnamed = unnamed command called.named

    pub call_complete : IsDue words (left source) → ¬ Rose (read_faults source) (read_faults after) → ¬ Rose (out_faults out) (out_faults out_after) →
        ¬ Rose (err_faults err) (err_faults err_after) → IsAnswered ran.status ⊎ (ran.status ≡ status.NoMemory)
    call_complete due source_quiet out_quiet err_quiet =
        run.complete (due.ready command called) source_quiet out_quiet err_quiet

    -- a command that does not read leaves the source as it was
    call_reads : ((after ≡ source) × (ran.status ≢ status.ReadFault)) ⊎ IsReadingCall words
    call_reads = go (room_of command).reads refl
      where
        go : (reads : Bool) → (room_of command).reads ≡ reads → ((after ≡ source) × (ran.status ≢ status.ReadFault)) ⊎ IsReadingCall words
        go true is = inr (command, called, is)
        go false is = inl (run.unread is)

    pub call_unread : ¬ IsReadingCall words → after ≡ source
    call_unread unread = elim call_reads [ inl stays ↦ stays.0 | inr reading ↦ absurd (unread reading) ]

    pub call_read_fault : ran.status ≡ status.ReadFault → IsReadingCall words
    call_read_fault fault = elim call_reads [ inl stays ↦ absurd (stays.1 fault) | inr reading ↦ reading ]

    pub call_no_memory : (after ≡ source) ⊎ IsReadingCall words
    call_no_memory = elim call_reads [ inl stays ↦ inl stays.0 | inr reading ↦ inr reading ]

  -- where they are refused, or memory is wanting while they are read
  abbrev Unanswered : Status → Type 0
  Unanswered s = Ended source s None

  words_ended : (text : List ℕ) → IsWordsRefusal words text → (s : Status) → Writes told err_faults err err_after status.Words s text → out_after ≡ out → Ended source s None
  words_ended text refused s (inl whole) same =
      subst Unanswered (sym whole.is) ((record { text = text; said = refused; whole = whole.whole }, same, refl), refl)
  words_ended text refused s (inr cut) same =
      subst Unanswered (sym cut.is) (inr (record { text = text; said = inr refused; front = cut.front; fault = cut.fault }, same), refl)

  pub stop_ended : (stop : WordsStop) → (stop ≡ NoCommand → IsNoCommand words) → (stop ≡ Usage → IsUsage words) → (s : Status) →
      Refuses told err_faults err err_after (stop_of_words stop) s → out_after ≡ out → Ended source s None
  stop_ended NoCommand unnamed refused s refuses same = words_ended (refused_words (words_stop_name NoCommand)) (no_command (unnamed refl) refl) s refuses same
  stop_ended Usage unnamed refused s refuses same = words_ended (refused_words (words_stop_name Usage)) (usage (refused refl) refl) s refuses same
  stop_ended NoMemory unnamed refused s (is, same_err) same = subst Unanswered (sym is) ((same, same_err), refl)

module _ {E : Type 0} (told : E → Option (List ℕ)) (err_faults : E → ℕ) (words : List (List ℕ)) (err err_after : E) where
  -- no stop at the words is told as an answer or a read fault
  stop_status : (stop : WordsStop) (s : Status) → Refuses told err_faults err err_after (stop_of_words stop) s → (s ≡ status.Words) ⊎ ((s ≡ status.WriteFault) ⊎ (s ≡ status.NoMemory))
  stop_status NoCommand s (inl whole) = inl whole.is
  stop_status NoCommand s (inr cut) = inr (inl cut.is)
  stop_status Usage s (inl whole) = inl whole.is
  stop_status Usage s (inr cut) = inr (inl cut.is)
  stop_status NoMemory s (is, same) = inr (inr is)

  pub stop_no_read_fault : (stop : WordsStop) (s : Status) → Refuses told err_faults err err_after (stop_of_words stop) s → s ≡ status.ReadFault → ⊥
  stop_no_read_fault stop s refuses is = elim (stop_status stop s refuses) [
    | inl other ↦ cc
    | inr (inl other) ↦ cc
    | inr (inr other) ↦ cc
  ]

  pub stop_no_answer : (stop : WordsStop) (s : Status) (is_yes : Bool) → Refuses told err_faults err err_after (stop_of_words stop) s → s ≡ answer_status is_yes → ⊥
  stop_no_answer stop s true refuses is = elim (stop_status stop s refuses) [
    | inl other ↦ cc
    | inr (inl other) ↦ cc
    | inr (inr other) ↦ cc
  ]
  stop_no_answer stop s false refuses is = elim (stop_status stop s refuses) [
    | inl other ↦ cc
    | inr (inl other) ↦ cc
    | inr (inr other) ↦ cc
  ]

  pub stop_unnamed : (stop : WordsStop) (s : Status) → Refuses told err_faults err err_after (stop_of_words stop) s → stop ≡ NoCommand → (s ≡ status.Words) ⊎ (s ≡ status.WriteFault)
  stop_unnamed NoCommand s (inl whole) is = inl whole.is
  stop_unnamed NoCommand s (inr cut) is = inr cut.is
  stop_unnamed Usage s refuses is = cc
  stop_unnamed NoMemory s refuses is = cc

  pub stop_later : (stop : WordsStop) (s : Status) → Refuses told err_faults err err_after (stop_of_words stop) s → err_faults err ≤ err_faults err_after
  stop_later NoCommand s writes = written_later told err_faults err err_after status.Words s (refused_words (words_stop_name NoCommand)) writes
  stop_later Usage s writes = written_later told err_faults err err_after status.Words s (refused_words (words_stop_name Usage)) writes
  stop_later NoMemory s (is, same) = let equal : err_faults err_after ≡ err_faults err = ap err_faults same in omega arith

  pub stop_complete : (stop : WordsStop) (s : Status) → (stop ≡ NoCommand → IsNoCommand words) → (stop ≡ Usage → IsUsage words) →
      Refuses told err_faults err err_after (stop_of_words stop) s → IsTaken words → s ≡ status.NoMemory
  stop_complete NoCommand s unnamed refused refuses taken = absurd (unnamed refl taken.command taken.named)
  stop_complete Usage s unnamed refused refuses taken = absurd (taken_not_usage words taken (refused refl))
  stop_complete NoMemory s unnamed refused (is, same) taken = is

-- an error is of one stop
pub same_stop : {T : Type 0} (stop other : WordsStop) → (let Stopped : WordsStop → Result T WordsStop = λ s. Err s in Stopped stop ≡ Stopped other) → stop ≡ other
same_stop stop other same = cc
