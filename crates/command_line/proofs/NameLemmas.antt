-- Commands, and the names by which the code finds them.
use Rattle.std.proofs.Common.{◌≡◌, ◌∙◌, ap, ap₂, sym, Bool, true, false, List, [], ◌∷◌, map, refl, Option, Some, None, cond, unwrap_or}
use Rattle.std.specs.Prelude.{find}
use Rattle.std.specs.Str.{bytes_eq}
use Rattle.std.proofs.lemmas.Option.{none-some}
use Rattle.std.proofs.lemmas.Slice.Eq.{bytes_eq-Decides}
use Rattle.clap.specs.Words.{Text}
use Rattle.fan_out.proofs.Counts.{nearest}
use Rattle.command_line.specs.declared.crew.Crew.{Crew}
use Rattle.command_line.specs.declared.commands.Command.{Command}
use Rattle.command_line.specs.declared.commands.Command.TheVariants.{Grow, Race, Report, Watch, Batch, Check, Replay, Schedule, Format, Upgrade, Turing, Quadrant, Picture, Certify, Verify, Counter, Load}
use Rattle.command_line.specs.declared.commands.CommandName.{CommandName}
use Rattle.command_line.specs.declared.commands.CommandName.TheVariants as name
use Rattle.command_line.specs.Commands.{IsNamed, IsNoCommand, arguments_of, command_app, said_by}
use Rattle.command_line.specs.Numbers.{NumberArgument, number_rule}
use Rattle.command_line.specs.Inner.Names.{first_name, name_app, name_arguments, name_of, name_word, names}
use Rattle.command_line.proofs.CommandLemmas.{app_is}
use Rattle.command_line.proofs.FrameCounts.{nearest_frames}
use Rattle.command_line.proofs.OptionLemmas.{app_with}

-- a command is what its name says of it
pub word_said : (command : Command) → name_word (name_of command) ≡ (said_by command).0
word_said (Grow crew) = refl
word_said _ = refl

pub arguments_said : (command : Command) → name_arguments (name_of command) ≡ arguments_of command
arguments_said (Grow crew) = refl
arguments_said _ = refl

pub app_said : (command : Command) → name_app (name_of command) ≡ command_app command
unfolding name_app command_app
app_said (Grow crew) = refl
app_said _ = refl

-- and clap reads it by the list of its rules
pub app_listed : (command : Command) → command_app command ≡ app_with (said_by command).0 (map number_rule (arguments_of command))
app_listed command =
    sym (app_said command) ∙ app_is (name_of command)
    ∙ ap₂ (λ (word : Text) (arguments : List NumberArgument). app_with word (map number_rule arguments)) (word_said command) (arguments_said command)

-- a command of each name
any_crew : Crew
any_crew = record { workers = nearest 1; choice = 0 }

any_command : CommandName → Command
any_command name.Grow = Grow any_crew
any_command name.Race = Race any_crew
any_command name.Report = Report any_crew
any_command name.Watch = Watch any_crew (nearest_frames 1)
any_command name.Batch = Batch (nearest 1)
any_command name.Check = Check
any_command name.Replay = Replay
any_command name.Schedule = Schedule
any_command name.Format = Format
any_command name.Upgrade = Upgrade
any_command name.Turing = Turing
any_command name.Quadrant = Quadrant
any_command name.Picture = Picture
any_command name.Certify = Certify
any_command name.Verify = Verify (nearest 1)
any_command name.Counter = Counter 0 0
any_command name.Load = Load 0

any_named : (name : CommandName) → name_of (any_command name) ≡ name
unfolding any_command
any_named name.Grow = refl
any_named _ = refl

pub some_command : (name : CommandName) → (command : Command) × (name_of command ≡ name)
some_command name = (any_command name, any_named name)

-- a name is found by its word
word_named : (name : CommandName) → first_name (name_word name ∷ []) ≡ Some name
word_named name.Grow = refl
word_named _ = refl

-- what is found in a list passes
found_passes : {X : Type 0} (test : X → Bool) (xs : List X) (x : X) → find test xs ≡ Some x → test x ≡ true
found_passes test [] x found = absurd (none-some x found)
found_passes {X} test (y ∷ ys) x found = go (test y) refl found (found_passes test ys x)
  where
    go : (b : Bool) → test y ≡ b → cond b (Some y) (find test ys) ≡ Some x → (find test ys ≡ Some x → test x ≡ true) → test x ≡ true
    go true passes found later = ap test (sym (ap (λ (o : Option X). unwrap_or o y) found)) ∙ passes
    go false passes found later = later found

-- words whose first names a command have its name
pub first_named : (words : List Text) (command : Command) → IsNamed words command → first_name words ≡ Some (name_of command)
first_named [] command named = absurd (none-some _ named)
first_named (word ∷ words) command named =
    let is : word ≡ (said_by command).0 = ap (λ (o : Option Text). unwrap_or o word) named in
    ap (λ (w : Text). first_name (w ∷ [])) (is ∙ sym (word_said command)) ∙ word_named (name_of command)

-- and words that have a command's name name it
pub named_first : (words : List Text) (command : Command) → first_name words ≡ Some (name_of command) → IsNamed words command
named_first [] command named = absurd (none-some _ named)
named_first (word ∷ words) command named =
    let passes = found_passes (λ name. bytes_eq (name_word name) word) names (name_of command) named in
    ap (λ (w : Text). Some w) (sym ((bytes_eq-Decides (name_word (name_of command)) word).0 passes) ∙ word_said command)

-- so no name is found exactly where no command is named
pub none_named : (words : List Text) → first_name words ≡ None → IsNoCommand words
none_named words none command named = none-some _ (sym none ∙ first_named words command named)

pub no_name : (words : List Text) → IsNoCommand words → first_name words ≡ None
no_name words unnamed = go (first_name words) refl
  where
    go : (found : Option CommandName) → first_name words ≡ found → first_name words ≡ None
    go None is = is
    go (Some name) is =
        let some = some_command name in
        absurd (unnamed some.0 (named_first words some.0 (is ∙ ap (λ (n : CommandName). Some n) (sym some.1))))

-- words name commands of one name
pub one_name : (words : List Text) (a b : Command) → IsNamed words a → IsNamed words b → name_of a ≡ name_of b
one_name words a b named other = ap (λ (o : Option CommandName). unwrap_or o (name_of a)) (sym (first_named words a named) ∙ first_named words b other)
