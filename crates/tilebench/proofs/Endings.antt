-- How runs end.
use Rattle.std.proofs.Common.{◌≡◌, ◌≢◌, ◌⊎◌, ◌≤◌, ℕ, Bool, true, false, ◌∙◌, List, Option, None, Result, Ok, Err, IfErr, refl, sym, ap, subst, arith, inl, inr}
use Rattle.tile_io.specs.declared.fault.TextFault.{TextFault}
use Rattle.tile_io.specs.Faults.{Rose}
use Rattle.site_table.specs.Seats.{GrownValue}
use Rattle.tilebench.specs.declared.status.Ran.{Ran}
use Rattle.tilebench.specs.declared.status.Status.{Status}
use Rattle.tilebench.specs.declared.status.Status.TheVariants as status
use Rattle.tilebench.specs.declared.stop.Stop.{Stop}
use Rattle.tilebench.specs.declared.stop.Stop.TheVariants.{Words, Counter, Text, ReadFault, NoMemory}
use Rattle.tilebench.specs.Gains.{Gains}
use Rattle.tilebench.specs.Headline.{Ends}
use Rattle.counter_compile.specs.declared.stop.CounterStop.{CounterStop}
use Rattle.tilebench.specs.Refusals.{counter_stop_name, refused_text, refused_words}
use Rattle.tilebench.specs.Statuses.{IsAnswered, answer_status}
use Rattle.tilebench.specs.Rows.{AnswersLeft, RoomRow, FailsLeft}
use Rattle.tilebench.specs.Inner.Gives.{GivesFromSource}
use Rattle.tilebench.specs.Inner.Runs.{EndsCommand, IsFaultLine, IsNumbersLine}
use Rattle.tilebench.specs.Inner.Tells.{Tells, Writes, WritesAnswer}
use Rattle.tilebench.proofs.Sources.{held_or_faulty}

-- the statuses of answers
answered : (is_yes : Bool) → IsAnswered (answer_status is_yes)
answered true = inl refl
answered false = inr refl

no_read_fault : (is_yes : Bool) → answer_status is_yes ≡ status.ReadFault → ⊥
no_read_fault true is = cc
no_read_fault false is = cc

module _ {K : Type 0} (written : K → Option (List ℕ)) (faults : K → ℕ) (old new : K) (told outcome : Status) (text : List ℕ) where
  pub written_later : Writes written faults old new told outcome text → faults old ≤ faults new
  written_later (inl whole) = whole.later
  written_later (inr cut) = cut.later

module _ {S K E : Type 0} (read_faults : S → ℕ) (written : K → Option (List ℕ)) (out_faults : K → ℕ) (told : E → Option (List ℕ)) (err_faults : E → ℕ)
    (source after : S) (out out_after : K) (err err_after : E) where
  -- what is said of a weaker kind
  module _ (Answer Answer' : Option GrownValue → Bool → List ℕ → Type 0) (Refusal Refusal' WordsRefusal WordsRefusal' : List ℕ → Type 0)
      (answer : (grown : Option GrownValue) (is_yes : Bool) (text : List ℕ) → Answer grown is_yes text → Answer' grown is_yes text)
      (refusal : (text : List ℕ) → Refusal text → Refusal' text) (words : (text : List ℕ) → WordsRefusal text → WordsRefusal' text) where
    abbrev Before : Status → Option GrownValue → Type 0
    Before = Ends read_faults written out_faults told err_faults Answer Refusal WordsRefusal source after out out_after err err_after

    abbrev After : Status → Option GrownValue → Type 0
    After = Ends read_faults written out_faults told err_faults Answer' Refusal' WordsRefusal' source after out out_after err err_after

    pub Ends-map : (s : Status) (grown : Option GrownValue) → Before s grown → After s grown
    Ends-map status.Done grown (gained, same) = (record { text = gained.text; said = answer grown true gained.text gained.said; whole = gained.whole }, same)
    Ends-map status.No grown (gained, same) = (record { text = gained.text; said = answer grown false gained.text gained.said; whole = gained.whole }, same)
    Ends-map status.Words grown ((gained, same, unread), none) =
        ((record { text = gained.text; said = words gained.text gained.said; whole = gained.whole }, same, unread), none)
    Ends-map status.Text grown ((gained, same), none) = ((record { text = gained.text; said = refusal gained.text gained.said; whole = gained.whole }, same), none)
    Ends-map status.ReadFault grown ends = ends
    Ends-map status.WriteFault grown (inl (cut, same), none) =
        let (lost, is_yes, said) = cut.said in
        (inl (record { text = cut.text; said = (lost, is_yes, answer lost is_yes cut.text said); front = cut.front; fault = cut.fault }, same), none)
    Ends-map status.WriteFault grown (inr (cut, same), none) = (inr (record { text = cut.text; said = either cut.text cut.said; front = cut.front; fault = cut.fault }, same), none)
      where
        either : (text : List ℕ) → Refusal text ⊎ WordsRefusal text → Refusal' text ⊎ WordsRefusal' text
        either text (inl refused) = inl (refusal text refused)
        either text (inr refused) = inr (words text refused)
    Ends-map status.NoMemory grown ends = ends

  -- the run of a command, by what it gave and what was told of that
  module _ {A : Type 0} (positive : A → Bool) (text : A → List ℕ) (printable : A → Type 0) (Answer : Option GrownValue → Bool → List ℕ → Type 0) (Refuses : CounterStop → Type 0)
      (Fails : TextFault → Type 0) where
    abbrev Ended : Status → Option GrownValue → Type 0
    Ended = Ends read_faults written out_faults told err_faults Answer (IsFaultLine Fails) (IsNumbersLine Refuses) source after out out_after err err_after

    abbrev Given : Result (A × Option GrownValue) Stop → Type 0
    Given = GivesFromSource read_faults positive text printable Answer Refuses Fails source after

    abbrev Told : Result (A × Option GrownValue) Stop → Ran → Type 0
    Told = Tells positive text written out_faults told err_faults out out_after err err_after

    -- a run of this status, with this growth
    ended_as : (ran : Ran) (s : Status) (grown : Option GrownValue) → ran.status ≡ s → ran.grown ≡ grown → Ended s grown → Ended ran.status ran.grown
    ended_as ran s grown is handed ends =
        subst (λ (g : Option GrownValue). Ended ran.status g) (sym handed) (subst (λ (s : Status). Ended s grown) (sym is) ends)

    ended_answer : (grown : Option GrownValue) (is_yes : Bool) → Gains written out_faults (Answer grown is_yes) out out_after → err_after ≡ err → Ended (answer_status is_yes) grown
    ended_answer grown true gained same = (gained, same)
    ended_answer grown false gained same = (gained, same)

    fault_line : (fault : TextFault) → Fails fault → IsFaultLine Fails (refused_text fault)
    fault_line fault fails = record { fault = fault; is = fails; told = refl }

    numbers_line : (stop : CounterStop) → Refuses stop → IsNumbersLine Refuses (refused_words (counter_stop_name stop))
    numbers_line stop refuses = record { stop = stop; is = refuses; told = refl }

    pub run_ended : (result : Result (A × Option GrownValue) Stop) (ran : Ran) → Given result → Told result ran → Ended ran.status ran.grown
    run_ended (Ok found) ran given (inl (whole, handed), same) =
        ended_as ran (answer_status (positive found.0)) found.1 whole.is handed
        (ended_answer found.1 (positive found.0) (record { text = text found.0; said = given.0.answer; whole = whole.whole }) same)
    run_ended (Ok found) ran given (inr (cut, none), same) =
        ended_as ran status.WriteFault None cut.is none
        (inl (record { text = text found.0; said = (found.1, positive found.0, given.0.answer); front = cut.front; fault = cut.fault }, same), refl)
    run_ended (Err (Text fault)) ran given (inl whole, none, same) =
        ended_as ran status.Text None whole.is none
        ((record { text = refused_text fault; said = fault_line fault given.0; whole = whole.whole }, same), refl)
    run_ended (Err (Text fault)) ran given (inr cut, none, same) =
        ended_as ran status.WriteFault None cut.is none
        (inr (record { text = refused_text fault; said = inl (fault_line fault given.0); front = cut.front; fault = cut.fault }, same), refl)
    run_ended (Err (Counter stop)) ran given (inl whole, none, same) =
        ended_as ran status.Words None whole.is none
        ((record { text = refused_words (counter_stop_name stop); said = numbers_line stop given.0; whole = whole.whole }, same, given.1), refl)
    run_ended (Err (Counter stop)) ran given (inr cut, none, same) =
        ended_as ran status.WriteFault None cut.is none
        (inr (record { text = refused_words (counter_stop_name stop); said = inr (numbers_line stop given.0); front = cut.front; fault = cut.fault }, same), refl)
    run_ended (Err ReadFault) ran given ((is, same_err), none, same_out) = ended_as ran status.ReadFault None is none ((given, same_out, same_err), refl)
    run_ended (Err NoMemory) ran given ((is, same_err), none, same_out) = ended_as ran status.NoMemory None is none ((same_out, same_err), refl)
    run_ended (Err (Words stop)) ran given told = absurd given

    answer_later : (is_yes : Bool) (text : List ℕ) (grown : Option GrownValue) (ran : Ran) → WritesAnswer written out_faults out out_after is_yes text grown ran → out_faults out ≤ out_faults out_after
    answer_later is_yes text grown ran (inl (whole, handed)) = whole.later
    answer_later is_yes text grown ran (inr (cut, none)) = cut.later

    pub run_out_later : (result : Result (A × Option GrownValue) Stop) (ran : Ran) → Given result → Told result ran → out_faults out ≤ out_faults out_after
    run_out_later (Ok found) ran given (writes, same) = answer_later (positive found.0) (text found.0) found.1 ran writes
    run_out_later (Err stop) ran given (refused, none, same) = let equal : out_faults out_after ≡ out_faults out = ap out_faults same in omega arith

    pub run_err_later : (result : Result (A × Option GrownValue) Stop) (ran : Ran) → Given result → Told result ran → err_faults err ≤ err_faults err_after
    run_err_later (Ok found) ran given (writes, same) = let equal : err_faults err_after ≡ err_faults err = ap err_faults same in omega arith
    run_err_later (Err (Text fault)) ran given (writes, none, same) = written_later told err_faults err err_after status.Text ran.status (refused_text fault) writes
    run_err_later (Err (Counter stop)) ran given (writes, none, same) = written_later told err_faults err err_after status.Words ran.status (refused_words (counter_stop_name stop)) writes
    run_err_later (Err ReadFault) ran given ((is, same_err), none, same_out) = let equal : err_faults err_after ≡ err_faults err = ap err_faults same_err in omega arith
    run_err_later (Err NoMemory) ran given ((is, same_err), none, same_out) = let equal : err_faults err_after ≡ err_faults err = ap err_faults same_err in omega arith
    run_err_later (Err (Words stop)) ran given told = absurd given

    -- where nothing fails, the input has no fault and no numbers are refused, there is an answer, or no memory for it
    pub run_complete : ((fault : TextFault) → Fails fault → ⊥) → ((stop : CounterStop) → ¬ Refuses stop) → ¬ Rose (read_faults source) (read_faults after) → ¬ Rose (out_faults out) (out_faults out_after) →
        ¬ Rose (err_faults err) (err_faults err_after) → (result : Result (A × Option GrownValue) Stop) (ran : Ran) → Given result → Told result ran →
        IsAnswered ran.status ⊎ (ran.status ≡ status.NoMemory)
    run_complete faultless unrefused source_quiet out_quiet err_quiet (Ok found) ran given (inl (whole, handed), same) = inl (subst IsAnswered (sym whole.is) (answered (positive found.0)))
    run_complete faultless unrefused source_quiet out_quiet err_quiet (Ok found) ran given (inr (cut, none), same) = absurd (out_quiet cut.fault)
    run_complete faultless unrefused source_quiet out_quiet err_quiet (Err (Text fault)) ran given told = absurd (faultless fault given.0)
    run_complete faultless unrefused source_quiet out_quiet err_quiet (Err (Counter stop)) ran given told = absurd (unrefused stop given.0)
    run_complete faultless unrefused source_quiet out_quiet err_quiet (Err ReadFault) ran given told = absurd (source_quiet given)
    run_complete faultless unrefused source_quiet out_quiet err_quiet (Err NoMemory) ran given ((is, same_err), none, same_out) = inr is
    run_complete faultless unrefused source_quiet out_quiet err_quiet (Err (Words stop)) ran given told = absurd given

-- the run of a command, by what it gave and what was told of that
module _ {S K E A : Type 0} (left : S → Option (List ℕ)) (read_faults : S → ℕ) (written : K → Option (List ℕ)) (out_faults : K → ℕ) (told : E → Option (List ℕ)) (err_faults : E → ℕ)
    (positive : A → Bool) (text : A → List ℕ) (printable : A → Type 0) (out out_after : K) (err err_after : E) (result : Result (A × Option GrownValue) Stop) (ran : Ran)
    (tells : Tells positive text written out_faults told err_faults out out_after err err_after result ran) where
  -- no answer and no other stop is told as a fault of the source
  told_no_read_fault : (r : Result (A × Option GrownValue) Stop) → IfErr r (λ stop. stop ≢ ReadFault) → Tells positive text written out_faults told err_faults out out_after err err_after r ran →
      ran.status ≢ status.ReadFault
  told_no_read_fault (Ok found) other (inl (whole, handed), same) is = no_read_fault (positive found.0) (sym whole.is ∙ is)
  told_no_read_fault (Ok found) other (inr (cut, none), same) is = let e = cut.is in cc
  told_no_read_fault (Err (Words stop)) other (inl whole, none, same) is = let e = whole.is in cc
  told_no_read_fault (Err (Words stop)) other (inr cut, none, same) is = let e = cut.is in cc
  told_no_read_fault (Err (Counter stop)) other (inl whole, none, same) is = let e = whole.is in cc
  told_no_read_fault (Err (Counter stop)) other (inr cut, none, same) is = let e = cut.is in cc
  told_no_read_fault (Err (Text fault)) other (inl whole, none, same) is = let e = whole.is in cc
  told_no_read_fault (Err (Text fault)) other (inr cut, none, same) is = let e = cut.is in cc
  told_no_read_fault (Err ReadFault) other t is = other refl
  told_no_read_fault (Err NoMemory) other ((e, same_err), none, same_out) is = cc

  module _ (row : RoomRow) (source after : S) where
    -- what it gave is an answer to what is left, which has no fault where it is taken
    pub run_ends : ((input : List ℕ) (fault : TextFault) → row.takes input → row.fails input fault → ⊥)
        → GivesFromSource read_faults positive text printable (λ grown. AnswersLeft row grown (left source) (left after)) row.refuses (FailsLeft row (left source) (left after)) source after result
        → (row.reads ≡ false → after ≡ source) → (row.reads ≡ false → IfErr result (λ stop. stop ≢ ReadFault)) → read_faults source ≤ read_faults after
        → EndsCommand left read_faults written out_faults told err_faults row source after out out_after err err_after ran
    run_ends one_of_two given unread unfailing later =
        let answers : Option GrownValue → Bool → List ℕ → Type 0 = λ grown. AnswersLeft row grown (left source) (left after) in
        let fails : TextFault → Type 0 = FailsLeft row (left source) (left after) in
        record {
          ends = run_ended read_faults written out_faults told err_faults source after out out_after err err_after positive text printable answers row.refuses fails result ran given tells;
          unread = λ reads. (unread reads, told_no_read_fault result (unfailing reads) tells);
          source_later = later;
          out_later = run_out_later read_faults written out_faults told err_faults source after out out_after err err_after positive text printable answers row.refuses fails result ran given tells;
          err_later = run_err_later read_faults written out_faults told err_faults source after out out_after err err_after positive text printable answers row.refuses fails result ran given tells;
          complete = λ ready source_quiet out_quiet err_quiet.
              run_complete read_faults written out_faults told err_faults source after out out_after err err_after positive text printable answers row.refuses fails
              (λ fault faulty. held_or_faulty row.takes row.fails one_of_two (left source) (left after) fault (ready.takes faulty.0) faulty.1)
              ready.accepts source_quiet out_quiet err_quiet result ran given tells;
        }
