-- What a parse finds for arguments that take a number.
use Rattle.std.specs.Prelude.{◌≡◌, ℕ, Bool, false, List, [], ◌∷◌, Some}
use Rattle.std.specs.List.{AllZip}
use Rattle.clap.specs.Words.{Accepts, App, Text, matches_of, one_text, read_as, reading_of, rows_of}
use Rattle.clap.specs.declared.builder.value_parser.ValueParser.{ValueParser}
use Rattle.clap.specs.declared.builder.value_parser.ValueParser.TheVariants.{Unsigned}
use Rattle.clap.specs.declared.parser.matches.Found.{Found}
use Rattle.command_line.specs.Numbers.{NumberArgument, States, number_of_text}

-- the parse found what clap states for these words
unfoldable pub IsExact : App → List Text → Found → Type 0
IsExact app words found = rows_of found ≡ matches_of app words

-- clap states these numbers for these arguments, in their order
abbrev pub StatesValues : App → List Text → List NumberArgument → List ℕ → Type 0
StatesValues app words = AllZip (λ argument value. States app words argument.id value)

-- the parse found a text for the id that the parser accepts
abbrev pub FindsText : Found → Text → Bool → ValueParser → Type 0
FindsText found id ignore_case parser = (text : Text) × (one_text found id ≡ Some (read_as (reading_of parser) text))
    × Accepts ignore_case parser text

-- the parse found a number for the id, in a range
unfoldable pub FindsInRange : Found → Text → ℕ → ℕ → Type 0
FindsInRange found id least most = FindsText found id false (Unsigned least most)

-- this is the number that the parse found for the id
unfoldable pub FindsNumber : Found → Text → ℕ → Type 0
FindsNumber found id number = (text : Text) × (one_text found id ≡ Some text) × (number ≡ number_of_text text)

-- the parse found a number in its range for each argument
abbrev pub FindsNumbers : List NumberArgument → Found → Type 0
FindsNumbers [] found = Unit {0}
FindsNumbers (argument ∷ arguments) found = FindsInRange found argument.id argument.least argument.most × FindsNumbers arguments found

-- these are the numbers that the parse found for the arguments, in their order
abbrev pub HasValues : List NumberArgument → List ℕ → Found → Type 0
HasValues [] [] found = Unit {0}
HasValues [] (value ∷ values) found = ⊥
HasValues (argument ∷ arguments) [] found = ⊥
HasValues (argument ∷ arguments) (value ∷ values) found = FindsNumber found argument.id value × HasValues arguments values found
