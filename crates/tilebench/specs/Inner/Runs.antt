-- How the run of one command ends.
use Rattle.std.specs.Prelude.{◌≡◌, ◌≢◌, ◌⊎◌, ◌≤◌, ℕ, false, List, Option}
use Rattle.tile_io.specs.declared.fault.TextFault.{TextFault}
use Rattle.tile_io.specs.Faults.{Rose}
use Rattle.counter_compile.specs.declared.stop.CounterStop.{CounterStop}
use Rattle.tilebench.specs.declared.status.Ran.{Ran}
use Rattle.tilebench.specs.declared.status.Status.TheVariants.{ReadFault, NoMemory}
use Rattle.tilebench.specs.Headline.{Ends}
use Rattle.tilebench.specs.Refusals.{counter_stop_name, refused_text, refused_words}
use Rattle.tilebench.specs.Rows.{RoomRow, AnswersLeft, FailsLeft, IsReadyFor}
use Rattle.tilebench.specs.Statuses.{IsAnswered}

-- the line that tells a fault of this kind
pub record IsFaultLine (IsFault : TextFault → Type 0) (text : List ℕ) : Type 0 where
  pub fault : TextFault
  pub is : IsFault fault
  pub told : text ≡ refused_text fault

-- the line that tells why numbers are refused
pub record IsNumbersLine (Refuses : CounterStop → Type 0) (text : List ℕ) : Type 0 where
  pub stop : CounterStop
  pub is : Refuses stop
  pub told : text ≡ refused_words (counter_stop_name stop)

module _ {S K E : Type 0} (left : S → Option (List ℕ)) (read_faults : S → ℕ) (written : K → Option (List ℕ)) (out_faults : K → ℕ) (told : E → Option (List ℕ)) (err_faults : E → ℕ)
    (row : RoomRow) where
  pub record EndsCommand (source source_after : S) (out out_after : K) (err err_after : E) (ran : Ran) : Type 0 where
    pub ends : Ends read_faults written out_faults told err_faults (λ grown. AnswersLeft row grown (left source) (left source_after))
        (IsFaultLine (FailsLeft row (left source) (left source_after))) (IsNumbersLine row.refuses) source source_after out out_after err err_after ran.status ran.grown
    pub unread : row.reads ≡ false → (source_after ≡ source) × (ran.status ≢ ReadFault)
    pub source_later : read_faults source ≤ read_faults source_after
    pub out_later : out_faults out ≤ out_faults out_after
    pub err_later : err_faults err ≤ err_faults err_after
    pub complete : IsReadyFor row (left source) → ¬ Rose (read_faults source) (read_faults source_after) → ¬ Rose (out_faults out) (out_faults out_after)
        → ¬ Rose (err_faults err) (err_faults err_after) → IsAnswered ran.status ⊎ (ran.status ≡ NoMemory)
