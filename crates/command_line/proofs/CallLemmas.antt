-- What the words of a command call for.
use Rattle.std.proofs.Common.{◌≡◌, ◌≢◌, ◌∙◌, ◌&&◌, ◌||◌, ap, ap₂, sym, subst, Bool, true, false, true≢false, not, map, length, List, [], ◌∷◌, ◌<◌, ℕ, refl, Option, Some, unwrap_or}
use Rattle.std.specs.Prelude.{All, decimal, flat_map, nat_lt}
use Rattle.std.proofs.lemmas.Bool.{ltb-true}
use Rattle.std.proofs.lemmas.List.Elements.{All-cons, All-head, All-nil, All-tail}
use Rattle.clap.specs.Matches.{found_of}
use Rattle.clap.specs.Walk.{is_empty}
use Rattle.clap.specs.Words.{App, Text, fault_of, is_simple, takes}
use Rattle.clap.proofs.WalkLemmas.{both}
use Rattle.clap.specs.declared.parser.matches.ArgMatches.{ArgMatches}
use Rattle.clap.proofs.OnLiterals.{clap_on_literals}
use Rattle.fan_out.specs.declared.worker_count.WorkerCount.{WorkerCount}
use Rattle.command_line.specs.declared.crew.Crew.{Crew}
use Rattle.command_line.specs.declared.commands.Command.{Command}
use Rattle.command_line.specs.declared.commands.Command.TheVariants.{Grow, Race, Report, Watch, Batch, Verify}
use Rattle.command_line.specs.declared.commands.CommandName.{CommandName}
use Rattle.command_line.specs.declared.words_stop.WordsStop.{WordsStop}
use Rattle.command_line.specs.declared.words_stop.WordsStop.TheVariants.{NoCommand, Usage, NoMemory}
use Rattle.command_line.specs.Commands.{IsCallOf, IsNamed, IsTaken, IsUsage, Spells, SpellsArguments, SpellsNumbers, SpellsOptions, arguments_of, command_app, numbers_of, said_by}
use Rattle.command_line.specs.Numbers.{AreInRange, NumberArgument, States, may_be_left_out, number_rule, option_words}
use Rattle.command_line.specs.Inner.Found.{HasValues, IsExact, StatesValues}
use Rattle.command_line.specs.Inner.Names.{first_name, name_app, name_arguments, name_of}
use Rattle.fan_out.proofs.Counts.{nearest_itself, same_count}
use Rattle.command_line.proofs.CommandLemmas.{app_simple}
use Rattle.command_line.proofs.FrameCounts.{nearest_frames_itself}
use Rattle.command_line.proofs.NameLemmas.{app_listed, app_said, arguments_said, first_named, named_first, one_name, some_command}
use Rattle.command_line.proofs.NumberLemmas.{not_both, number_stated, states_once}
use Rattle.command_line.proofs.OptionLemmas.{app_with, are_plain_options, is_not, options_spelled, options_taken}
use Rattle.command_line.proofs.NumberWordLemmas.{are_plain_numbers, numbers_spelled}

-- what an exact parse finds for the arguments is what clap states
values_stated : (app : App) (words : List Text) (found : ArgMatches) (arguments : List NumberArgument) (values : List ℕ) → IsExact app words (found_of found)
    → HasValues arguments values (found_of found) → StatesValues app words arguments values
values_stated app words found [] [] exact has = tt
values_stated app words found [] (value ∷ values) exact has = absurd has
values_stated app words found (argument ∷ arguments) [] exact has = absurd has
values_stated app words found (argument ∷ arguments) (value ∷ values) exact has =
    (number_stated app words argument.id found value exact has.0, values_stated app words found arguments values exact has.1)

-- the numbers that clap states, in the two ways to say it
abbrev AreStated : App → List Text → List (NumberArgument × ℕ) → Type 0
AreStated app words = All (λ said. States app words said.0.id said.1)

abbrev AreStatedApart : App → List Text → List (NumberArgument × ℕ) → Type 0
AreStatedApart app words said = StatesValues app words (map (λ s. s.0) said) (map (λ s. s.1) said)

stated_apart : (app : App) (words : List Text) (said : List (NumberArgument × ℕ)) → AreStated app words said → AreStatedApart app words said
stated_apart app words [] stated = tt
stated_apart app words (first ∷ said) stated =
    let P : NumberArgument × ℕ → Type 0 = λ s. States app words s.0.id s.1 in
    (All-head P first said stated, stated_apart app words said (All-tail P first said stated))

stated_together : (app : App) (words : List Text) (said : List (NumberArgument × ℕ)) → AreStatedApart app words said → AreStated app words said
stated_together app words [] stated = All-nil (λ (s : NumberArgument × ℕ). States app words s.0.id s.1)
stated_together app words (first ∷ said) stated =
    let P : NumberArgument × ℕ → Type 0 = λ s. States app words s.0.id s.1 in
    All-cons P first said stated.0 (stated_together app words said stated.1)

-- a command that was read off a parse of the words is the one that they call for
pub call_read : (words : List Text) (found : ArgMatches) (command : Command) (name : CommandName) → name_of command ≡ name → first_name words ≡ Some name
    → fault_of (name_app name) words ≡ [] → IsExact (name_app name) words (found_of found)
    → HasValues (name_arguments name) (numbers_of command) (found_of found) → IsCallOf words command
call_read words found command name is named accepted exact has = record {
  named = named_first words command (named ∙ ap (λ n. Some n) (sym is));
  accepted = ap (λ (app : App). fault_of app words) (sym app) ∙ accepted;
  stated = stated_together (command_app command) words (said_by command).1
      (values_stated (command_app command) words found (arguments_of command) (numbers_of command) (subst (λ (app : App). IsExact app words (found_of found)) app exact)
      (subst (λ (arguments : List NumberArgument). HasValues arguments (numbers_of command) (found_of found)) arguments has));
}
  where
    app : name_app name ≡ command_app command
    app = ap name_app (sym is) ∙ app_said command

    arguments : name_arguments name ≡ arguments_of command
    arguments = ap name_arguments (sym is) ∙ arguments_said command

-- the numbers are in range
pub range_read : (command : Command) (name : CommandName) → name_of command ≡ name → AreInRange (name_arguments name) (numbers_of command) → AreInRange (arguments_of command) (numbers_of command)
range_read command name is = subst (λ (arguments : List NumberArgument). AreInRange arguments (numbers_of command)) (ap name_arguments (sym is) ∙ arguments_said command)

-- words in which clap finds a fault
pub usage_read : (words : List Text) (name : CommandName) → first_name words ≡ Some name → fault_of (name_app name) words ≢ [] → takes (name_app name) words ≡ false → IsUsage words
usage_read words name named refused untaken = record {
  command = some.0;
  named = named_first words some.0 (named ∙ ap (λ n. Some n) (sym some.1));
  refused = λ none. refused (ap (λ (app : App). fault_of app words) app ∙ none);
  untaken = ap (λ (app : App). takes app words) (sym app) ∙ untaken;
}
  where
    some : (command : Command) × (name_of command ≡ name)
    some = some_command name

    app : name_app name ≡ command_app some.0
    app = ap name_app (sym some.1) ∙ app_said some.0

-- clap states one value for each argument
values_once : (app : App) (words : List Text) (arguments : List NumberArgument) (a b : List ℕ) → StatesValues app words arguments a → StatesValues app words arguments b → a ≡ b
values_once app words [] [] [] states other = refl
values_once app words [] (value ∷ values) b states other = absurd states
values_once app words [] a (value ∷ values) states other = absurd other
values_once app words (argument ∷ arguments) [] b states other = absurd states
values_once app words (argument ∷ arguments) a [] states other = absurd other
values_once app words (argument ∷ arguments) (value ∷ values) (value_too ∷ values_too) states other =
    ap₂ (λ (v : ℕ) (vs : List ℕ). v ∷ vs) (states_once app words argument.id value value_too states.0 other.0) (values_once app words arguments values values_too states.1 other.1)

-- commands that say the same are one; those are told apart that say a number of workers or of frames, which is known by its number
crew_of : WorkerCount → ℕ → Crew
crew_of workers choice = record { workers = workers; choice = choice }

same_crew : (a b : Crew) → a.workers.count ≡ b.workers.count → a.choice ≡ b.choice → a ≡ b
unfolding crew_of
same_crew a b workers choice = ap₂ crew_of (same_count a.workers b.workers workers) choice

crew_said : (a b : Crew) → a.workers.count ∷ a.choice ∷ [] ≡ b.workers.count ∷ b.choice ∷ [] → a ≡ b
crew_said a b values =
    let workers : a.workers.count ≡ b.workers.count = cc in
    let choice : a.choice ≡ b.choice = cc in
    same_crew a b workers choice

same_said : (a b : Command) → name_of a ≡ name_of b → numbers_of a ≡ numbers_of b → a ≡ b
same_said (Grow crew) (Grow other) named values = ap (λ c. Grow c) (crew_said crew other values)
same_said (Race crew) (Race other) named values = ap (λ c. Race c) (crew_said crew other values)
same_said (Report crew) (Report other) named values = ap (λ c. Report c) (crew_said crew other values)
same_said (Watch crew frames) (Watch other more) named values =
    let workers : crew.workers.count ≡ other.workers.count = cc in
    let choice : crew.choice ≡ other.choice = cc in
    let crews = same_crew crew other workers choice in
    cc (crews, nearest_frames_itself frames, nearest_frames_itself more)
same_said (Batch workers) (Batch others) named values = cc (nearest_itself workers, nearest_itself others)
same_said (Verify workers) (Verify others) named values = cc (nearest_itself workers, nearest_itself others)
same_said _ (Grow other) named values = cc
same_said _ _ named values = cc

-- so are commands of one word
one_word : (a b : Command) → (said_by a).0 ≡ (said_by b).0 → name_of a ≡ name_of b
one_word a b same = one_name ((said_by a).0 ∷ []) a b refl (ap (λ (w : Text). Some w) same)

pub same_arguments : (a b : Command) → (said_by a).0 ≡ (said_by b).0 → arguments_of a ≡ arguments_of b
same_arguments a b same = sym (arguments_said a) ∙ ap name_arguments (one_word a b same) ∙ arguments_said b

pub same_command : (a b : Command) → (said_by a).0 ≡ (said_by b).0 → numbers_of a ≡ numbers_of b → a ≡ b
same_command a b same = same_said a b (one_word a b same)

-- words are read as one command
one_app : (a b : Command) → name_of a ≡ name_of b → command_app a ≡ command_app b
one_app a b same = sym (app_said a) ∙ ap name_app same ∙ app_said b

-- words that state the numbers of two commands of one name
one_command : (words : List Text) (a b : Command) → name_of a ≡ name_of b → AreStated (command_app a) words (said_by a).1 → AreStated (command_app b) words (said_by b).1 → a ≡ b
one_command words a b same states other =
    let arguments : arguments_of b ≡ arguments_of a = sym (arguments_said b) ∙ ap name_arguments (sym same) ∙ arguments_said a in
    let mine = stated_apart (command_app a) words (said_by a).1 states in
    let theirs = stated_apart (command_app b) words (said_by b).1 other in
    same_said a b same (values_once (command_app a) words (arguments_of a) (numbers_of a) (numbers_of b) mine
    (subst (λ (some : List NumberArgument). StatesValues (command_app a) words some (numbers_of b)) arguments
    (subst (λ (app : App). StatesValues app words (arguments_of b) (numbers_of b)) (one_app b a (sym same)) theirs)))

-- words call for one command
pub call_once : (words : List Text) (a b : Command) → IsCallOf words a → IsCallOf words b → a ≡ b
call_once words a b call other = one_command words a b (one_name words a b call.named other.named) call.stated other.stated

-- and are then not refused
pub call_not_usage : (words : List Text) (command : Command) → IsCallOf words command → IsUsage words → ⊥
call_not_usage words command call usage =
    let same = one_name words usage.command command usage.named call.named in
    usage.refused (ap (λ (app : App). fault_of app words) (one_app usage.command command same) ∙ call.accepted)

-- words that clap promises to take are not refused
pub taken_not_usage : (words : List Text) → IsTaken words → IsUsage words → ⊥
taken_not_usage words taken usage =
    let same = one_name words usage.command taken.command usage.named taken.named in
    let takes_too : takes (command_app usage.command) words ≡ true = ap (λ (app : App). takes app words) (one_app usage.command taken.command same) ∙ taken.taken in
    true≢false (sym takes_too ∙ usage.untaken)

-- and only want of memory stops their reading
pub taken_stops : (words : List Text) (name : CommandName) (stop : WordsStop) → first_name words ≡ Some name → (stop ≡ NoCommand → ⊥)
    → (stop ≡ Usage → takes (name_app name) words ≡ false) → IsTaken words → stop ≡ NoMemory
taken_stops words name NoMemory is other untaken taken = refl
taken_stops words name NoCommand is other untaken taken = absurd (other refl)
taken_stops words name Usage is other untaken taken =
    let same : name ≡ name_of taken.command = ap (λ (o : Option CommandName). unwrap_or o name) (sym is ∙ first_named words taken.command taken.named) in
    absurd (true≢false (sym (ap (λ (app : App). takes app words) (ap name_app same ∙ app_said taken.command) ∙ taken.taken) ∙ untaken refl))

-- ---- the plainest words

-- each command either takes its word alone, or misses a word
abbrev wants_more : Command → Bool
wants_more command =
    may_be_left_out (arguments_of command)
    || (not (takes (command_app command) ((said_by command).0 ∷ [])) && not (is_empty (fault_of (command_app command) ((said_by command).0 ∷ []))))

word_wanting : (command : Command) → wants_more command ≡ true
unfolding command_app clap_on_literals
word_wanting (Grow crew) = refl
word_wanting _ = refl

-- the options of a command have ids and defaults that can be given
options_plain : (command : Command) → (not (may_be_left_out (arguments_of command)) || are_plain_options (arguments_of command)) ≡ true
options_plain (Grow crew) = refl
options_plain _ = refl

plain_of : (command : Command) → may_be_left_out (arguments_of command) ≡ true → are_plain_options (arguments_of command) ≡ true
plain_of command left = sym (ap (λ (b : Bool). not b || are_plain_options (arguments_of command)) left) ∙ options_plain command

simple_of : (command : Command) → is_simple (app_with (said_by command).0 (map number_rule (arguments_of command))) ≡ true
simple_of command = ap is_simple (sym (app_listed command) ∙ sym (app_said command)) ∙ (both _ _ (app_simple (name_of command))).0

-- a command whose arguments may be left out takes its word alone
pub alone_taken : (command : Command) → may_be_left_out (arguments_of command) ≡ true → IsTaken ((said_by command).0 ∷ [])
alone_taken command left = record {
  command = command;
  named = refl;
  taken =
      ap (λ (app : App). takes app ((said_by command).0 ∷ [])) (app_listed command)
      ∙ options_taken (said_by command).0 (arguments_of command) [] (simple_of command) left (plain_of command left) tt;
}

-- and no other command
pub alone_wanting : (command : Command) → may_be_left_out (arguments_of command) ≡ false → IsUsage ((said_by command).0 ∷ [])
alone_wanting command more =
    let wants = both _ _ (sym (ap (λ (b : Bool). b || (not (takes (command_app command) ((said_by command).0 ∷ []))
    && not (is_empty (fault_of (command_app command) ((said_by command).0 ∷ []))))) more) ∙ word_wanting command) in
    record {
      command = command;
      named = refl;
      refused = λ none. not_both _ wants.1 (ap is_empty none);
      untaken = is_not _ wants.0;
    }

-- clap takes such words, and states their numbers
record IsSpelled (words : List Text) (command : Command) : Type 0 where
  named : IsNamed words command
  taken : takes (command_app command) words ≡ true
  stated : AreStated (command_app command) words (said_by command).1

options_said : (words : List Text) (command : Command) → may_be_left_out (arguments_of command) ≡ true → AreInRange (arguments_of command) (numbers_of command) → SpellsOptions words command
    → IsSpelled words command
options_said words command left range is =
    let spelled = options_spelled (said_by command).0 (arguments_of command) (numbers_of command) is.given (simple_of command) left (plain_of command left) range is.gives in
    let spelling : List Text = (said_by command).0 ∷ flat_map option_words is.given in
    subst (λ (w : List Text). IsSpelled w command) (sym is.words_are) (record {
      named = refl;
      taken = ap (λ (app : App). takes app spelling) (app_listed command) ∙ spelled.taken;
      stated = stated_together (command_app command) spelling (said_by command).1
          (subst (λ (app : App). StatesValues app spelling (arguments_of command) (numbers_of command)) (sym (app_listed command)) spelled.stated);
    })

-- the numbers of a command have ids of their own
numbers_plain : (command : Command) → (may_be_left_out (arguments_of command) || (are_plain_numbers (arguments_of command) && nat_lt (length (arguments_of command)) 1000)) ≡ true
numbers_plain (Grow crew) = refl
numbers_plain _ = refl

numbers_said : (words : List Text) (command : Command) → may_be_left_out (arguments_of command) ≡ false → AreInRange (arguments_of command) (numbers_of command) → SpellsNumbers words command
    → IsSpelled words command
numbers_said words command more range is =
    let plain = both (are_plain_numbers (arguments_of command)) _
    (sym (ap (λ (b : Bool). b || (are_plain_numbers (arguments_of command) && nat_lt (length (arguments_of command)) 1000)) more) ∙ numbers_plain command) in
    let few : length (arguments_of command) < 1000 = ltb-true (length (arguments_of command)) 1000 plain.1 in
    let taken = numbers_spelled (said_by command).0 (arguments_of command) (numbers_of command) plain.0 range few (simple_of command) in
    let spelling : List Text = (said_by command).0 ∷ map decimal (numbers_of command) in
    subst (λ (w : List Text). IsSpelled w command) (sym is) (record {
      named = refl;
      taken = ap (λ (app : App). takes app spelling) (app_listed command) ∙ taken.taken;
      stated = stated_together (command_app command) spelling (said_by command).1
          (subst (λ (app : App). StatesValues app spelling (arguments_of command) (numbers_of command)) (sym (app_listed command)) taken.stated);
    })

spelled : (words : List Text) (command : Command) → Spells words command → IsSpelled words command
spelled words command is = go (may_be_left_out (arguments_of command)) refl is.1
  where
    go : (b : Bool) → may_be_left_out (arguments_of command) ≡ b → SpellsArguments b words command → IsSpelled words command
    go true left said = options_said words command left is.0 said
    go false more said = numbers_said words command more is.0 said

pub spelled_taken : (words : List Text) (command : Command) → Spells words command → IsTaken words
spelled_taken words command is =
    let s = spelled words command is in
    record { command = command; named = s.named; taken = s.taken }

-- they call for no other command
pub call_spelled : (words : List Text) (called spelled : Command) → IsCallOf words called → Spells words spelled → called ≡ spelled
call_spelled words called other call is =
    let s = spelled words other is in
    one_command words called other (one_name words called other call.named s.named) call.stated s.stated
