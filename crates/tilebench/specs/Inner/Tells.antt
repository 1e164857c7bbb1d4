-- What is written, and the status that tells it.
use Rattle.std.specs.Prelude.{◌≡◌, ◌⊎◌, ◌≤◌, ℕ, Bool, List, Option, None, Result, Ok, Err}
use Rattle.std.specs.Io.KnownBytes.{Appends}
use Rattle.tile_io.specs.Faults.{Rose}
use Rattle.tile_io.specs.Prints.{AppendsFront}
use Rattle.command_line.specs.Commands.{words_stop_name}
use Rattle.site_table.specs.Seats.{GrownValue}
use Rattle.tilebench.specs.declared.status.Ran.{Ran}
use Rattle.tilebench.specs.declared.status.Status.{Status}
use Rattle.tilebench.specs.declared.status.Status.TheVariants as status
use Rattle.tilebench.specs.declared.stop.Stop.{Stop}
use Rattle.tilebench.specs.declared.stop.Stop.TheVariants.{Words, Counter, Text, ReadFault, NoMemory}
use Rattle.tilebench.specs.Refusals.{counter_stop_name, refused_text, refused_words}
use Rattle.tilebench.specs.Statuses.{answer_status}

-- the status of a refusal that was to be written
abbrev pub written_status : {T E : Type 0} → Result T E → Status → Status
written_status (Ok x) told = told
written_status (Err e) told = status.WriteFault

module _ {K : Type 0} (written : K → Option (List ℕ)) (faults : K → ℕ) where
  -- a text was written whole, which this status tells
  pub record WritesWhole (old new : K) (told outcome : Status) (text : List ℕ) : Type 0 where
    pub is : outcome ≡ told
    pub whole : Appends (written old) (written new) text
    pub later : faults old ≤ faults new

  -- a write failed, and a front of it was
  pub record WritesFront (old new : K) (outcome : Status) (text : List ℕ) : Type 0 where
    pub is : outcome ≡ status.WriteFault
    pub front : AppendsFront (written old) (written new) text
    pub fault : Rose (faults old) (faults new)
    pub later : faults old ≤ faults new

  abbrev pub Writes : K → K → Status → Status → List ℕ → Type 0
  Writes old new told outcome text = WritesWhole old new told outcome text ⊎ WritesFront old new outcome text

  -- the line of a stop was written, if it has one
  abbrev pub Refuses : K → K → Stop → Status → Type 0
  Refuses old new (Words stop) outcome = Writes old new status.Words outcome (refused_words (words_stop_name stop))
  Refuses old new (Counter stop) outcome = Writes old new status.Words outcome (refused_words (counter_stop_name stop))
  Refuses old new (Text fault) outcome = Writes old new status.Text outcome (refused_text fault)
  Refuses old new ReadFault outcome = (outcome ≡ status.ReadFault) × (new ≡ old)
  Refuses old new NoMemory outcome = (outcome ≡ status.NoMemory) × (new ≡ old)

  -- the text of an answer was written whole, and its growth is handed out; or a write failed
  abbrev pub WritesAnswer : K → K → Bool → List ℕ → Option GrownValue → Ran → Type 0
  WritesAnswer old new is_yes text grown ran =
      (WritesWhole old new (answer_status is_yes) ran.status text × (ran.grown ≡ grown)) ⊎ (WritesFront old new ran.status text × (ran.grown ≡ None))

-- the text of an answer was written, or the refusal
module _ {A K E : Type 0} (positive : A → Bool) (text : A → List ℕ) (written : K → Option (List ℕ)) (out_faults : K → ℕ) (told : E → Option (List ℕ)) (err_faults : E → ℕ) where
  abbrev pub Tells : K → K → E → E → Result (A × Option GrownValue) Stop → Ran → Type 0
  Tells out out_after err err_after (Ok found) ran = WritesAnswer written out_faults out out_after (positive found.0) (text found.0) found.1 ran × (err_after ≡ err)
  Tells out out_after err err_after (Err stop) ran = Refuses told err_faults err err_after stop ran.status × (ran.grown ≡ None) × (out_after ≡ out)
