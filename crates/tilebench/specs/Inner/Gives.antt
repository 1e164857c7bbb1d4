-- What the steps towards an answer hand back: a value, or why there is none.
use Rattle.std.specs.Prelude.{◌≡◌, ◌≤◌, ℕ, Bool, true, false, List, Option, Result, Ok, Err}
use Rattle.tile_io.specs.declared.fault.TextFault.{TextFault}
use Rattle.tile_io.specs.Faults.{Rose}
use Rattle.site_table.specs.Seats.{GrownValue}
use Rattle.counter_compile.specs.declared.stop.CounterStop.{CounterStop}
use Rattle.tilebench.specs.declared.stop.Stop.{Stop}
use Rattle.tilebench.specs.declared.stop.Stop.TheVariants.{Words, Counter, Text, ReadFault, NoMemory}
use Rattle.tilebench.specs.Inputs.{FailsInput, IsWholeInput}
use Rattle.tilebench.specs.Rows.{AnswersLeft, FailsLeft, RoomRow}

-- a value with a fact, or a fault of the input with its fact; or no memory
abbrev pub Gives : {T : Type 0} → (T → Type 0) → (TextFault → Type 0) → Result T Stop → Type 0
Gives Holds Fails (Ok value) = Holds value
Gives Holds Fails (Err (Text fault)) = Fails fault
Gives Holds Fails (Err NoMemory) = Unit {0}
Gives Holds Fails (Err (Words stop)) = ⊥
Gives Holds Fails (Err (Counter stop)) = ⊥
Gives Holds Fails (Err ReadFault) = ⊥

-- what is read from a source behind what was left before: a value with a fact; or the first fault of all that was left; or the source failed; or no memory
module _ {S T : Type 0} (before : Option (List ℕ)) (left : S → Option (List ℕ)) (faults : S → ℕ) where
  abbrev pub GivesBehind : (Option (List ℕ) → Option (List ℕ) → T → Type 0) → (List ℕ → TextFault → Type 0) → S → S → Result T Stop → Type 0
  GivesBehind Holds Fails source after (Ok value) = Holds before (left after) value × (faults source ≤ faults after)
  GivesBehind Holds Fails source after (Err (Text fault)) = FailsInput Fails before (left after) fault × (faults source ≤ faults after)
  GivesBehind Holds Fails source after (Err ReadFault) = Rose (faults source) (faults after)
  GivesBehind Holds Fails source after (Err NoMemory) = faults source ≤ faults after
  GivesBehind Holds Fails source after (Err (Words stop)) = ⊥
  GivesBehind Holds Fails source after (Err (Counter stop)) = ⊥

-- what is read from a source of what is left of it
abbrev pub GivesRead : {S T : Type 0} → (S → Option (List ℕ)) → (S → ℕ) → (Option (List ℕ) → Option (List ℕ) → T → Type 0) → (List ℕ → TextFault → Type 0) → S → S → Result T Stop → Type 0
GivesRead left faults Holds Fails source after result = GivesBehind (left source) left faults Holds Fails source after result

-- all that was left of a source is an input, with this fact of the value
abbrev pub HoldsWhole : {T : Type 0} → (List ℕ → T → Type 0) → Option (List ℕ) → Option (List ℕ) → T → Type 0
HoldsWhole Holds left left_after value = (input : List ℕ) × IsWholeInput left left_after input × Holds input value

-- an answer that can be printed, and whose text and yes are these
pub record IsReply {A : Type 0} (positive : A → Bool) (text : A → List ℕ) (printable : A → Type 0) (Answers : Bool → List ℕ → Type 0) (reply : A) : Type 0 where
  pub answer : Answers (positive reply) (text reply)
  pub prints : printable reply

-- what a room answers to an input, with the growth that is to be handed out; or the fault of an input that was read; or why the numbers are refused, for which nothing was read; or no memory
module _ {A : Type 0} (positive : A → Bool) (text : A → List ℕ) (printable : A → Type 0) (row : RoomRow) (input : List ℕ) where
  abbrev pub GivesAnswer : Result (A × Option GrownValue) Stop → Type 0
  GivesAnswer (Ok found) = IsReply positive text printable (row.answers found.1 input) found.0
  GivesAnswer (Err (Text fault)) = row.fails input fault × (row.reads ≡ true)
  GivesAnswer (Err (Counter stop)) = row.refuses stop × (row.reads ≡ false)
  GivesAnswer (Err NoMemory) = Unit {0}
  GivesAnswer (Err (Words stop)) = ⊥
  GivesAnswer (Err ReadFault) = ⊥

-- an answer to what was left of the source, or a fault of it; or why the numbers are refused, with the source unread; or the source failed
module _ {S A : Type 0} (faults : S → ℕ) (positive : A → Bool) (text : A → List ℕ) (printable : A → Type 0) where
  abbrev pub GivesFromSource : (Option GrownValue → Bool → List ℕ → Type 0) → (CounterStop → Type 0) → (TextFault → Type 0) → S → S → Result (A × Option GrownValue) Stop → Type 0
  GivesFromSource Answers Refuses Fails source after (Ok found) = IsReply positive text printable (Answers found.1) found.0 × (faults source ≤ faults after)
  GivesFromSource Answers Refuses Fails source after (Err (Text fault)) = Fails fault × (faults source ≤ faults after)
  GivesFromSource Answers Refuses Fails source after (Err (Counter stop)) = Refuses stop × (after ≡ source)
  GivesFromSource Answers Refuses Fails source after (Err ReadFault) = Rose (faults source) (faults after)
  GivesFromSource Answers Refuses Fails source after (Err NoMemory) = faults source ≤ faults after
  GivesFromSource Answers Refuses Fails source after (Err (Words stop)) = ⊥

-- what a command that reads in blocks answers to all that was left of a source
module _ {S A : Type 0} (left : S → Option (List ℕ)) (faults : S → ℕ) (positive : A → Bool) (text : A → List ℕ) (printable : A → Type 0) (row : RoomRow) where
  abbrev pub AnswersFrom : S → S → Result (A × Option GrownValue) Stop → Type 0
  AnswersFrom source after result =
      GivesFromSource faults positive text printable (λ grown. AnswersLeft row grown (left source) (left after)) row.refuses (FailsLeft row (left source) (left after)) source after result
