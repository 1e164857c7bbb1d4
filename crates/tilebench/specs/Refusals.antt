-- Refusals of the words and of the input.
use Rattle.std.specs.Prelude.{◌≡◌, ℕ, true, List, [], ◌∷◌, codes, decimal}
use Rattle.tile_io.specs.declared.fault.TextFault.{TextFault}
use Rattle.tile_io.specs.Causes.{cause_name}
use Rattle.tile_io.specs.Lines.{line_of}
use Rattle.counter_compile.specs.declared.stop.CounterStop.{CounterStop}
use Rattle.counter_compile.specs.declared.stop.CounterStop.TheVariants as counter
use Rattle.command_line.specs.declared.commands.Command.{Command}
use Rattle.command_line.specs.Commands.{IsCallOf}
use Rattle.tilebench.specs.Commands.{room_of}

-- the words call for a command that reads the input
abbrev pub IsReadingCall : List (List ℕ) → Type 0
IsReadingCall words = (command : Command) × IsCallOf words command × ((room_of command).reads ≡ true)

-- the line that tells why the words are refused, by its name
abbrev pub refused_words : List ℕ → List ℕ
refused_words reason = line_of (codes "refused" ∷ codes "words" ∷ reason ∷ [])

-- how the program calls a refusal of a counter's numbers
abbrev pub counter_stop_name : CounterStop → List ℕ
counter_stop_name counter.BitsOutOfRange = codes "BitsOutOfRange"
counter_stop_name counter.StartTooLarge = codes "StartTooLarge"
counter_stop_name counter.TooTall = codes "TooTall"
counter_stop_name counter.NoMemory = codes "NoMemory"

-- the line that tells a fault of the input
abbrev pub refused_text : TextFault → List ℕ
refused_text fault = line_of (codes "refused" ∷ codes "text" ∷ codes "line" ∷ decimal fault.line ∷ cause_name fault.cause ∷ [])
