-- The commands, and the words of a command line that call for them.
use Rattle.std.specs.Prelude.{◌≡◌, ◌≢◌, ◌⊎◌, ◌^◌, ◌-◌, ◌++◌, ℕ, All, Bool, true, false, List, [], ◌∷◌, fold, Some, None, Result, Err, IsOk, codes, decimal, flat_map, map, slice_get}
use Rattle.clap.specs.Words.{App, Text, fault_of, new_app, takes, with_rule}
use Rattle.clap.specs.Simple.{on_top}
use Rattle.clap.specs.declared.error.kind.ErrorKind.{ErrorKind}
use Rattle.clap.specs.declared.error.kind.ErrorKind.TheVariants.{OutOfMemory}
use Rattle.command_line.specs.declared.crew.Crew.{Crew}
use Rattle.command_line.specs.declared.commands.Command.{Command}
use Rattle.command_line.specs.declared.commands.Command.TheVariants.{Grow, Race, Report, Watch, Batch, Check, Replay, Schedule, Format, Upgrade, Turing, Quadrant, Picture, Certify, Verify, Counter, Load}
use Rattle.command_line.specs.declared.words_stop.WordsStop.{WordsStop}
use Rattle.command_line.specs.declared.words_stop.WordsStop.TheVariants.{NoCommand, Usage, NoMemory}
use Rattle.command_line.specs.Numbers.{AreInRange, GivesOptions, NumberArgument, States, may_be_left_out, number_rule, option_words}

-- ---- the table

-- `--workers N`, where N is 1 to 16, 1 if it is left out
abbrev pub workers_option : NumberArgument
workers_option = record { id = codes "workers"; default = Some (codes "1"); least = 1; most = 16 }

-- `--choice N`, where N is a `u64`, 0 if it is left out
abbrev pub choice_option : NumberArgument
choice_option = record { id = codes "choice"; default = Some (codes "0"); least = 0; most = 2 ^ 64 - 1 }

-- `--frames F`, where F is 1 to 1000, 1 if it is left out
abbrev pub frames_option : NumberArgument
frames_option = record { id = codes "frames"; default = Some (codes "1"); least = 1; most = 1000 }

-- the word BITS, a `u32`
abbrev pub bits_argument : NumberArgument
bits_argument = record { id = codes "bits"; default = None; least = 0; most = 2 ^ 32 - 1 }

-- the word START, a `u64`
abbrev pub start_argument : NumberArgument
start_argument = record { id = codes "start"; default = None; least = 0; most = 2 ^ 64 - 1 }

-- the word N, a `u64`
abbrev pub load_argument : NumberArgument
load_argument = record { id = codes "number"; default = None; least = 0; most = 2 ^ 64 - 1 }

-- `--workers N` and `--choice N`, with their numbers
abbrev pub crew_options : Crew → List (NumberArgument × ℕ)
crew_options crew = (workers_option, crew.workers.count) ∷ (choice_option, crew.choice) ∷ []

-- each command: the word that names it, and its arguments with their numbers, in their order
abbrev pub said_by : Command → Text × List (NumberArgument × ℕ)
said_by (Grow crew) = (codes "grow", crew_options crew)
said_by (Race crew) = (codes "race", crew_options crew)
said_by (Report crew) = (codes "report", crew_options crew)
said_by (Watch crew frames) =
    (codes "watch", crew_options crew ++ (frames_option, frames.count) ∷ [])
said_by (Batch workers) = (codes "batch", (workers_option, workers.count) ∷ [])
said_by Check = (codes "check", [])
said_by Replay = (codes "replay", [])
said_by Schedule = (codes "schedule", [])
said_by Format = (codes "format", [])
said_by Upgrade = (codes "upgrade", [])
said_by Turing = (codes "turing", [])
said_by Quadrant = (codes "quadrant", [])
said_by Picture = (codes "picture", [])
said_by Certify = (codes "certify", [])
said_by (Verify workers) = (codes "verify", (workers_option, workers.count) ∷ [])
said_by (Counter bits start) =
    (codes "counter", (bits_argument, bits) ∷ (start_argument, start) ∷ [])
said_by (Load number) = (codes "load", (load_argument, number) ∷ [])

-- the arguments of a command
abbrev pub arguments_of : Command → List NumberArgument
arguments_of command = map (λ said. said.0) (said_by command).1

-- and their numbers
abbrev pub numbers_of : Command → List ℕ
numbers_of command = map (λ said. said.1) (said_by command).1

-- ---- what words call for

-- the first word names the command
abbrev pub IsNamed : List Text → Command → Type 0
IsNamed words command = slice_get words 0 ≡ Some (said_by command).0

-- no command is named: the first word is missing, or is that of none
abbrev pub IsNoCommand : List Text → Type 0
IsNoCommand words = (command : Command) → ¬ IsNamed words command

-- a command without arguments, as clap reads it: clap's help flag is off, and there is no version flag
abbrev pub plain_app : Text → App
plain_app name = on_top (λ shape. record shape { disable_help_flag = true }) (new_app name)

-- the command, as clap reads it, whatever its numbers
unfoldable pub command_app : Command → App
command_app command =
    fold (λ app said. with_rule app (number_rule said.0)) (plain_app (said_by command).0)
    (said_by command).1

-- the first word names the command, clap finds no fault in the list, and states its numbers
pub record IsCallOf (words : List Text) (command : Command) : Type 0 where
  pub named : IsNamed words command
  pub accepted : fault_of (command_app command) words ≡ []
  pub stated : All (λ said. States (command_app command) words said.0.id said.1)
      (said_by command).1

-- the first word names a command, and clap promises to take the list
pub record IsTaken (words : List Text) : Type 0 where
  pub command : Command
  pub named : IsNamed words command
  pub taken : takes (command_app command) words ≡ true

-- the first word names a command, and clap finds a fault in the list, which it does not promise to take
pub record IsUsage (words : List Text) : Type 0 where
  pub command : Command
  pub named : IsNamed words command
  pub refused : fault_of (command_app command) words ≢ []
  pub untaken : takes (command_app command) words ≡ false

-- where clap promises to take the list, there is a command, or memory is wanting
abbrev pub IsTakenUnlessMemory : List Text → Result Command WordsStop → Type 0
IsTakenUnlessMemory words result = IsTaken words → IsOk result ⊎ (result ≡ Err NoMemory)

-- the plainest words for a command with options: its word, and each option that is given, in any order, with its number in decimal digits without leading zeros
pub record SpellsOptions (words : List Text) (command : Command) : Type 0 where
  pub given : List (NumberArgument × ℕ)
  pub gives : GivesOptions (arguments_of command) (numbers_of command) given
  pub words_are : words ≡ (said_by command).0 ∷ flat_map option_words given

-- the plainest words for a command whose numbers are words of their own: its word, and each number in decimal digits without leading zeros
abbrev pub SpellsNumbers : List Text → Command → Type 0
SpellsNumbers words command = words ≡ (said_by command).0 ∷ map decimal (numbers_of command)

-- the plainest words for a command, whose arguments may be left out or not
abbrev pub SpellsArguments : Bool → List Text → Command → Type 0
SpellsArguments true = SpellsOptions
SpellsArguments false = SpellsNumbers

-- the plainest words for a command
abbrev pub Spells : List Text → Command → Type 0
Spells words command = AreInRange (arguments_of command) (numbers_of command)
    × SpellsArguments (may_be_left_out (arguments_of command)) words command

-- ---- refusals

-- what an error of clap becomes
abbrev pub words_stop_of : ErrorKind → WordsStop
words_stop_of OutOfMemory = NoMemory
words_stop_of _ = Usage

-- how the program calls a refusal of words
abbrev pub words_stop_name : WordsStop → Text
words_stop_name NoCommand = codes "NoCommand"
words_stop_name Usage = codes "Usage"
words_stop_name NoMemory = codes "NoMemory"
