-- The statuses of a run.
use Rattle.std.specs.Prelude.{◌≡◌, ◌⊎◌, ℕ, Bool, true, false}
use Rattle.tilebench.specs.declared.status.Status.{Status}
use Rattle.tilebench.specs.declared.status.Status.TheVariants.{Done, No, Words, Text, ReadFault, WriteFault, NoMemory}

-- the exit code of a status
abbrev pub number_of : Status → ℕ
number_of Done = 0
number_of No = 1
number_of Words = 2
number_of Text = 3
number_of ReadFault = 4
number_of WriteFault = 5
number_of NoMemory = 6

-- the status of an answer that was printed
abbrev pub answer_status : Bool → Status
answer_status true = Done
answer_status false = No

-- a command was done
abbrev pub IsAnswered : Status → Type 0
IsAnswered status = (status ≡ Done) ⊎ (status ≡ No)
