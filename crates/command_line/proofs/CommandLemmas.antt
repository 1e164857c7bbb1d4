-- What a parse of each command finds.
use Rattle.std.proofs.Common.{◌≡◌, ◌∙◌, ◌++◌, ◌&&◌, ◌<◌, ap, ap₂, sym, subst, Bool, true, ℕ, List, [], ◌∷◌, map, fold, length, refl, arith, suc}
use Rattle.std.specs.List.{list_all, slice_index_or}
use Rattle.clap.specs.Built.{IsParsedFrom}
use Rattle.clap.specs.Matches.{found_of}
use Rattle.clap.specs.Simple.{App, HasMatchesOf, app_of, is_simple, matches_of}
use Rattle.clap.specs.Words.{Rule, Text, is_simple_and_free, with_rule}
use Rattle.clap.specs.declared.builder.command.Command.{Command}
use Rattle.clap.specs.declared.parser.matches.ArgMatches.{ArgMatches}
use Rattle.clap.proofs.WalkLemmas.{both}
use Rattle.command_line.specs.declared.commands.CommandName.{CommandName}
use Rattle.command_line.specs.declared.commands.CommandName.TheVariants.{Grow}
use Rattle.command_line.specs.Numbers.{NumberArgument, number_rule}
use Rattle.command_line.specs.Inner.Found.{FindsNumbers, IsExact}
use Rattle.command_line.specs.Inner.Names.{name_app, name_arguments, name_word}
use Rattle.command_line.proofs.NumberLemmas.{HasNumberArgument, argument_found, is_own_id, only_at}
use Rattle.command_line.proofs.OptionLemmas.{app_with, append_none, push_more}

-- clap's words for faults and for what is taken are about such commands
pub app_simple : (name : CommandName) → is_simple_and_free (name_app name) ≡ true
unfolding name_app
app_simple Grow = refl
app_simple _ = refl

-- the command has the arguments, from a place on
abbrev HasArguments : App → ℕ → List NumberArgument → Type 0
HasArguments app place [] = Unit {0}
HasArguments app place (argument ∷ arguments) = HasNumberArgument app place argument × HasArguments app (suc place) arguments

-- the command, as clap reads it, by the list of its rules
with_rules : (word : Text) (rules : List Rule) (arguments : List NumberArgument)
    → fold (λ app argument. with_rule app (number_rule argument)) (app_with word rules) arguments ≡ app_with word (rules ++ map number_rule arguments)
with_rules word rules [] = ap (app_with word) (sym (append_none rules))
with_rules word rules (argument ∷ arguments) =
    with_rules word (rules ++ number_rule argument ∷ []) arguments ∙ ap (app_with word) (push_more rules (number_rule argument) (map number_rule arguments))

pub app_is : (name : CommandName) → name_app name ≡ app_with (name_word name) (map number_rule (name_arguments name))
unfolding name_app
app_is name = with_rules (name_word name) [] (name_arguments name)

-- no two of these arguments have one id, from a place on, and none has an id of clap's own
abbrev have_own_ids : List NumberArgument → ℕ → List NumberArgument → Bool
have_own_ids all place [] = true
have_own_ids all place (argument ∷ arguments) = only_at (map number_rule all) place argument.id && (is_own_id argument.id && have_own_ids all (suc place) arguments)

own_ids : (name : CommandName) → have_own_ids (name_arguments name) 0 (name_arguments name) ≡ true
own_ids Grow = refl
own_ids _ = refl

rules_simple : (arguments : List NumberArgument) → list_all (λ rule. rule.is_simple) (map number_rule arguments) ≡ true
rules_simple [] = refl
rules_simple (argument ∷ arguments) = rules_simple arguments

rules_free : (arguments : List NumberArgument) → list_all (λ rule. rule.is_free) (map number_rule arguments) ≡ true
rules_free [] = refl
rules_free (argument ∷ arguments) = rules_free arguments

rule_below : (front rest : List NumberArgument) (argument : NumberArgument) → length front < length (map number_rule (front ++ argument ∷ rest))
rule_below [] rest argument = omega arith
rule_below (first ∷ front) rest argument = let more = rule_below front rest argument in omega (arith, more)

rule_there : (front rest : List NumberArgument) (argument : NumberArgument) (other : Rule) → slice_index_or (map number_rule (front ++ argument ∷ rest)) (length front) other ≡ number_rule argument
rule_there [] rest argument other = refl
rule_there (first ∷ front) rest argument other = rule_there front rest argument other

one_longer : (front : List NumberArgument) (argument : NumberArgument) → length (front ++ argument ∷ []) ≡ suc (length front)
one_longer [] argument = refl
one_longer (first ∷ front) argument = ap suc (one_longer front argument)

has_from : (word : Text) (front arguments : List NumberArgument) → have_own_ids (front ++ arguments) (length front) arguments ≡ true
    → HasArguments (app_with word (map number_rule (front ++ arguments))) (length front) arguments
has_from word front [] own = tt
has_from word front (argument ∷ arguments) own =
    let p = both (only_at (map number_rule (front ++ argument ∷ arguments)) (length front) argument.id) _ own in
    let q = both (is_own_id argument.id) _ p.1 in
    let Rest : List NumberArgument → ℕ → Type 0 = λ all place. HasArguments (app_with word (map number_rule all)) place arguments in
    let others = has_from word (front ++ argument ∷ []) arguments
    (ap₂ (λ (all : List NumberArgument) (place : ℕ). have_own_ids all place arguments) (push_more front argument arguments) (one_longer front argument) ∙ q.1) in (
      record {
        simple = rules_simple (front ++ argument ∷ arguments);
        negates = refl;
        free = rules_free (front ++ argument ∷ arguments);
        below = rule_below front arguments argument;
        at = rule_there front arguments argument;
        only = p.0;
        own = q.0;
      },
      subst (λ (place : ℕ). Rest (front ++ argument ∷ arguments) place) (one_longer front argument)
          (subst (λ (all : List NumberArgument). Rest all (length (front ++ argument ∷ []))) (push_more front argument arguments) others),
    )

has_arguments : (name : CommandName) → HasArguments (name_app name) 0 (name_arguments name)
has_arguments name = subst (λ (app : App). HasArguments app 0 (name_arguments name)) (sym (app_is name)) (has_from (name_word name) [] (name_arguments name) (own_ids name))

-- a parse finds a number for each argument of the command
arguments_found : (command : Command) (found : ArgMatches) (app : App) → app_of command ≡ app → IsParsedFrom command found
    → (place : ℕ) (arguments : List NumberArgument) → HasArguments app place arguments → FindsNumbers arguments (found_of found)
arguments_found command found app is parsed place [] has = tt
arguments_found command found app is parsed place (argument ∷ arguments) has =
    (argument_found command found app is parsed place argument has.0, arguments_found command found app is parsed (suc place) arguments has.1)

-- a parse finds what clap states, and a number for each argument
pub command_parsed : (name : CommandName) (command : Command) (words : List Text) (found : ArgMatches) → app_of command ≡ name_app name
    → IsParsedFrom command found → HasMatchesOf (app_of command) words found
    → IsExact (name_app name) words (found_of found) × FindsNumbers (name_arguments name) (found_of found)
unfolding IsExact
command_parsed name command words found is parsed matches =
    let simple : is_simple (app_of command) ≡ true = ap is_simple is ∙ (both _ _ (app_simple name)).0 in (
      (matches simple).0 ∙ ap (λ (app : App). matches_of app words) is,
      arguments_found command found (name_app name) is parsed 0 (name_arguments name) (has_arguments name),
    )
