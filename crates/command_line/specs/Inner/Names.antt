-- The names by which the code goes from the first word to a command: commands without their numbers.
use Rattle.std.specs.Prelude.{List, [], ◌∷◌, fold, Option, None, bytes_eq, codes, find}
use Rattle.clap.specs.Words.{App, Text, with_rule}
use Rattle.command_line.specs.declared.commands.Command.{Command}
use Rattle.command_line.specs.declared.commands.Command.TheVariants.{Grow, Race, Report, Watch, Batch, Check, Replay, Schedule, Format, Upgrade, Turing, Quadrant, Picture, Certify, Verify, Counter, Load}
use Rattle.command_line.specs.declared.commands.CommandName.{CommandName}
use Rattle.command_line.specs.declared.commands.CommandName.TheVariants as name
use Rattle.command_line.specs.Commands.{bits_argument, choice_option, frames_option, load_argument, plain_app, start_argument, workers_option}
use Rattle.command_line.specs.Numbers.{NumberArgument, number_rule}

-- the name of a command
abbrev pub name_of : Command → CommandName
name_of (Grow crew) = name.Grow
name_of (Race crew) = name.Race
name_of (Report crew) = name.Report
name_of (Watch crew frames) = name.Watch
name_of (Batch workers) = name.Batch
name_of Check = name.Check
name_of Replay = name.Replay
name_of Schedule = name.Schedule
name_of Format = name.Format
name_of Upgrade = name.Upgrade
name_of Turing = name.Turing
name_of Quadrant = name.Quadrant
name_of Picture = name.Picture
name_of Certify = name.Certify
name_of (Verify workers) = name.Verify
name_of (Counter bits start) = name.Counter
name_of (Load number) = name.Load

-- the word and the arguments of the commands of a name
abbrev pub row_of : CommandName → Text × List NumberArgument
row_of name.Grow = (codes "grow", workers_option ∷ choice_option ∷ [])
row_of name.Race = (codes "race", workers_option ∷ choice_option ∷ [])
row_of name.Report = (codes "report", workers_option ∷ choice_option ∷ [])
row_of name.Watch = (codes "watch", workers_option ∷ choice_option ∷ frames_option ∷ [])
row_of name.Batch = (codes "batch", workers_option ∷ [])
row_of name.Check = (codes "check", [])
row_of name.Replay = (codes "replay", [])
row_of name.Schedule = (codes "schedule", [])
row_of name.Format = (codes "format", [])
row_of name.Upgrade = (codes "upgrade", [])
row_of name.Turing = (codes "turing", [])
row_of name.Quadrant = (codes "quadrant", [])
row_of name.Picture = (codes "picture", [])
row_of name.Certify = (codes "certify", [])
row_of name.Verify = (codes "verify", workers_option ∷ [])
row_of name.Counter = (codes "counter", bits_argument ∷ start_argument ∷ [])
row_of name.Load = (codes "load", load_argument ∷ [])

-- the word
abbrev pub name_word : CommandName → Text
name_word name = (row_of name).0

-- the arguments
abbrev pub name_arguments : CommandName → List NumberArgument
name_arguments name = (row_of name).1

-- the names
abbrev pub names : List CommandName
names = name.Grow ∷ name.Race ∷ name.Report ∷ name.Watch ∷ name.Batch ∷ name.Check ∷ name.Replay
    ∷ name.Schedule ∷ name.Format ∷ name.Upgrade ∷ name.Turing ∷ name.Quadrant ∷ name.Picture
    ∷ name.Certify ∷ name.Verify ∷ name.Counter ∷ name.Load ∷ []

-- the name of the first word
abbrev pub first_name : List Text → Option CommandName
first_name [] = None
first_name (word ∷ words) = find (λ name. bytes_eq (name_word name) word) names

-- the commands of a name, as clap reads them
unfoldable pub name_app : CommandName → App
name_app name = fold (λ app argument. with_rule app (number_rule argument)) (plain_app (name_word name)) (name_arguments name)
