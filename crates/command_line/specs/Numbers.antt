-- Arguments that take a number, and what clap states for them.
use Rattle.std.specs.Prelude.{◌≡◌, ◌⊎◌, ◌≤◌, ◌++◌, ℕ, List, [], ◌∷◌, Bool, Option, Some, codes, decimal, is_some, not, option_map}
use Rattle.std.specs.List.{list_all}
use Rattle.std.specs.Str.Parse.{digits_value, without_leading_plus}
use Rattle.clap.specs.Words.{App, Rule, Text, matches_of, new_rule, one_of}
use Rattle.clap.specs.declared.builder.action.ArgAction.TheVariants.{Set}
use Rattle.clap.specs.declared.builder.value_parser.ValueParser.TheVariants.{Unsigned}
use Rattle.std.specs.Option.{option_to_list}

-- an argument that takes a number: an option `--id N`, with the digits that stand for it where it is left out, or, where there are none, a word of its own, which is required; and the range of its numbers
pub record NumberArgument : Type 0 where
  pub id : Text
  pub default : Option Text
  pub least : ℕ
  pub most : ℕ

-- these are as many numbers as arguments, in their ranges and in their order
abbrev pub AreInRange : List NumberArgument → List ℕ → Type 0
AreInRange [] [] = Unit {0}
AreInRange [] (value ∷ values) = ⊥
AreInRange (argument ∷ arguments) [] = ⊥
AreInRange (argument ∷ arguments) (value ∷ values) = (argument.least ≤ value) × (value ≤ argument.most) × AreInRange arguments values

-- each of these arguments may be left out
abbrev pub may_be_left_out : List NumberArgument → Bool
may_be_left_out = list_all (λ argument. is_some argument.default)

-- the number that clap reads in a text of decimal digits, of which a `+` in front is no part
abbrev pub number_of_text : Text → ℕ
number_of_text text = digits_value 10 (without_leading_plus text)

-- an option that is left out has its default
abbrev pub IsDefault : NumberArgument → ℕ → Type 0
IsDefault argument number = (digits : Text) × (argument.default ≡ Some digits) × (number ≡ number_of_text digits)

-- These options with these numbers stand in this order: each one is left out where it has its default, or stands once, anywhere among the others.
abbrev pub GivesOptions : List NumberArgument → List ℕ → List (NumberArgument × ℕ) → Type 0
GivesOptions [] [] given = given ≡ []
GivesOptions [] (number ∷ numbers) given = ⊥
GivesOptions (argument ∷ arguments) [] given = ⊥
GivesOptions (argument ∷ arguments) (number ∷ numbers) given = (IsDefault argument number × GivesOptions arguments numbers given)
    ⊎ ((before after : List (NumberArgument × ℕ)) × (given ≡ before ++ (argument, number) ∷ after) × GivesOptions arguments numbers (before ++ after))

-- an option and its number, in decimal digits without leading zeros
abbrev pub option_words : NumberArgument × ℕ → List Text
option_words given = (codes "--" ++ given.0.id) ∷ decimal given.1 ∷ []

-- the argument, as clap reads it
abbrev pub number_rule : NumberArgument → Rule
number_rule argument = record (new_rule argument.id) {
  long = option_map (λ digits. argument.id) argument.default;
  action = Some Set;
  parser = Some (Unsigned argument.least argument.most);
  defaults = option_to_list argument.default;
  required = not (is_some argument.default);
}

-- clap states this number for an argument of the command on these words
unfoldable pub States : App → List Text → Text → ℕ → Type 0
States app words id number = (text : Text) × (one_of id (matches_of app words) ≡ Some text)
    × (number ≡ number_of_text text)
