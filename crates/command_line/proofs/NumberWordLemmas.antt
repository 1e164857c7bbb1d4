-- Lists of words with numbers as words of their own, which clap takes.
use Rattle.std.proofs.Common.{◌≡◌, ◌∙◌, ◌&&◌, ◌||◌, ◌==◌, ◌++◌, ◌+◌, ◌<◌, ◌^◌, ℕ, suc, Bool, true, false, List, [], ◌∷◌, Option, Some, None, is_some, not, map, fold, length, min, refl, ap, ap₂, sym, subst, arith, cond}
use Rattle.std.specs.Prelude.{decimal, find, if◌then◌else◌, nat_lt, option_and_then}
use Rattle.std.specs.Option.{option_map_or}
use Rattle.std.specs.List.{list_all}
use Rattle.std.specs.Str.{bytes_eq}
use Rattle.std.proofs.lemmas.Bool.{eq-eqb, ltb-true, ne_eqb}
use Rattle.clap.specs.Facts.{explicit_source}
use Rattle.clap.specs.Lexer.{usize_max}
use Rattle.clap.specs.Words.{Rule, Row, Shape, Text, is_simple, matches_of, one_of, takes}
use Rattle.clap.specs.Simple.{filled, filled_from, index_after, with_index}
use Rattle.clap.specs.Walk.{Held, Walk, arg_by_id, arg_by_index, finished, has_row, idle, is_pending, nothing_held, positional_held, pushed, row_text, settled, to_positional, walk, walked, with_default}
use Rattle.clap.specs.Takes.{built_takes, default_passes, is_given, is_valid, level_passes, positional_passes, settle_passes, turn_passes, walk_passes}
use Rattle.clap.proofs.TakesLemmas.{leaf_takes}
use Rattle.clap.proofs.WalkLemmas.{both}
use Rattle.command_line.specs.Numbers.{AreInRange, NumberArgument, States, number_rule}
use Rattle.command_line.specs.Inner.Found.{StatesValues}
use Rattle.command_line.proofs.OptionLemmas.{AreTaken, IsHeld, app_with, append_none, built_with, given_row, held_told, is_not, none_has, number_entry, number_held, other_bytes, push_more, same_bytes, still_new}
use Rattle.command_line.proofs.TakenLemmas.{decimal_text, none_left, pass_more}

-- ---- the rules of numbers

-- the number at a place, as clap keeps it in a built command
abbrev word_rule : ℕ → NumberArgument → Rule
word_rule place argument = number_entry argument None (Some place) [] true

abbrev word_rules : ℕ → List NumberArgument → List Rule
word_rules place [] = []
word_rules place (argument ∷ arguments) = word_rule place argument ∷ word_rules (suc place) arguments

-- the numbers are wanted, fit in 64 bits, and have ids of their own
abbrev pub are_plain_numbers : List NumberArgument → Bool
are_plain_numbers [] = true
are_plain_numbers (argument ∷ arguments) =
    not (is_some argument.default)
    && (nat_lt argument.most (2 ^ 64) && (list_all (λ other. not (bytes_eq other.id argument.id)) arguments && are_plain_numbers arguments))

one_filled : (argument : NumberArgument) (place : ℕ) → is_some argument.default ≡ false → place < usize_max
    → (with_index place (filled (number_rule argument)) ≡ word_rule place argument) × (index_after place (number_rule argument) ≡ suc place)
one_filled argument place wanted low = go argument.default refl wanted
  where
    next : min (place + 1) usize_max ≡ suc place
    next = omega (arith, low)

    Filled : Option Text → Type 0
    Filled o = (with_index place (filled (number_rule (record argument { default = o }))) ≡ word_rule place argument)
        × (index_after place (number_rule (record argument { default = o })) ≡ suc place)

    go : (o : Option Text) → argument.default ≡ o → is_some o ≡ false → Filled argument.default
    go (Some digits) is wanted = cc
    go None is wanted = subst Filled (sym is) (refl, next)

numbers_filled : (arguments : List NumberArgument) (place : ℕ) → are_plain_numbers arguments ≡ true → place + length arguments < usize_max
    → filled_from place (map number_rule arguments) ≡ word_rules place arguments
numbers_filled [] place plain low = refl
numbers_filled (argument ∷ arguments) place plain low =
    let p = both (not (is_some argument.default)) _ plain in
    let q = both _ _ (both (nat_lt argument.most (2 ^ 64)) _ p.1).1 in
    let here = one_filled argument place (is_not _ p.0) (omega (arith, low)) in
    ap₂ (λ (rule : Rule) (rules : List Rule). rule ∷ rules) here.0 (ap (λ k. filled_from k (map number_rule arguments)) here.1 ∙ numbers_filled arguments (suc place) q.1 (omega (arith, low)))

-- each of these numbers has its rule among all, from a place on
abbrev HaveRules : List Rule → ℕ → List NumberArgument → Type 0
HaveRules rules place [] = Unit {0}
HaveRules rules place (argument ∷ arguments) = (arg_by_index rules place ≡ Some (word_rule place argument)) × (arg_by_id rules argument.id ≡ Some (word_rule place argument))
    × HaveRules rules (suc place) arguments

more_rules : (first : NumberArgument) (place : ℕ) (rules : List Rule) (from : ℕ) (arguments : List NumberArgument) → place < from
    → list_all (λ (other : NumberArgument). not (bytes_eq other.id first.id)) arguments ≡ true → HaveRules rules from arguments → HaveRules (word_rule place first ∷ rules) from arguments
more_rules first place rules from [] low others have = tt
more_rules first place rules from (argument ∷ arguments) low others have =
    let p = both _ _ others in
    let other : bytes_eq first.id argument.id ≡ false = other_bytes argument.id first.id (is_not _ p.0) in
    let later : (place == from) ≡ false = ne_eqb place from (λ e. omega (arith, e, low)) in (
      ap (λ b. cond b (Some (word_rule place first)) (arg_by_index rules from)) later ∙ have.0,
      ap (λ b. cond b (Some (word_rule place first)) (arg_by_id rules argument.id)) other ∙ have.1,
      more_rules first place rules (suc from) arguments (omega (arith, low)) p.1 have.2,
    )

same_number : (n : ℕ) → (n == n) ≡ true
same_number n = eq-eqb n n refl

have_rules : (arguments : List NumberArgument) (place : ℕ) → are_plain_numbers arguments ≡ true → HaveRules (word_rules place arguments) place arguments
have_rules [] place plain = tt
have_rules (argument ∷ arguments) place plain =
    let q = both _ _ (both (nat_lt argument.most (2 ^ 64)) _ (both (not (is_some argument.default)) _ plain).1).1 in (
      ap (λ b. cond b (Some (word_rule place argument)) (arg_by_index (word_rules (suc place) arguments) place)) (same_number place),
      ap (λ b. cond b (Some (word_rule place argument)) (arg_by_id (word_rules (suc place) arguments) argument.id)) (same_bytes argument.id),
      more_rules argument place (word_rules (suc place) arguments) (suc place) arguments (omega arith) q.0 (have_rules arguments (suc place) q.1),
    )

-- ---- the walk over numbers

-- between two words, of which the next one goes to a place
abbrev at_place : ℕ → Held → Walk
at_place place held = record { held = held; waiting = idle; position = place; is_trailing = false; stopped = None }

and_false : (b : Bool) → (b && false) ≡ false
and_false true = refl
and_false false = refl

module _ (name : Text) (rules : List Rule) (held : Held) (rows : List Row) (is : IsHeld rules held rows) (place : ℕ) (low : place < usize_max) (given : NumberArgument × ℕ)
    (found : arg_by_index rules place ≡ Some (word_rule place given.0)) (fits : given.1 < 2 ^ 64) where
  abbrev text : Text
  text = decimal given.1

  told : positional_held rules (word_rule place given.0) text held ≡ held_told rules held given
  told = ap (λ (b : Bool). pushed given.0.id text (if b then held else settled rules held)) (and_false (is_pending (word_rule place given.0) held.pending))

  word_placed : walked rules [] (at_place place held) text ≡ to_positional rules (arg_by_index rules place) text (at_place place held) held
  unfolding walked
  word_placed = let plain = (decimal_text given.1 fits).plain in rw (plain.dashes, plain.long, plain.short) refl

  word_walked : walked rules [] (at_place place held) text ≡ at_place (suc place) (held_told rules held given)
  word_walked =
      let next : min (place + 1) usize_max ≡ suc place = omega (arith, low) in
      word_placed ∙ ap (λ o. to_positional rules o text (at_place place held) held) found ∙ ap₂ (λ (p : ℕ) (h : Held). at_place p h) next told

  word_turn : turn_passes (built_with name rules).top [] (at_place place held) text ≡ true
  word_turn =
      let plain = (decimal_text given.1 fits).plain in
      rw (plain.dashes, plain.long, plain.short) (ap (λ o. option_map_or (λ rule. positional_passes rules false rule held) o false) found
      ∙ ap₂ (λ (a b : Bool). a || b) (and_false (is_pending (word_rule place given.0) held.pending)) is.passes)

-- the walk over the words of some numbers reaches its end
record IsWalked (name : Text) (rules : List Rule) (place : ℕ) (held : Held) (words : List Text) (rows : List Row) : Type 0 where
  end : Walk
  passes : walk_passes (built_with name rules).top [] (at_place place held) words ≡ true
  reached : fold (walked rules []) (at_place place held) words ≡ end
  is_held : IsHeld rules end.held rows

-- the numbers of some arguments
abbrev given_to : List NumberArgument → List ℕ → List (NumberArgument × ℕ)
given_to [] numbers = []
given_to (argument ∷ arguments) [] = []
given_to (argument ∷ arguments) (number ∷ numbers) = (argument, number) ∷ given_to arguments numbers

none_given : (id : Text) (arguments : List NumberArgument) (numbers : List ℕ) → list_all (λ (other : NumberArgument). not (bytes_eq other.id id)) arguments ≡ true → none_has id (given_to arguments numbers) ≡ true
none_given id [] numbers none = refl
none_given id (argument ∷ arguments) [] none = refl
none_given id (argument ∷ arguments) (number ∷ numbers) none = let p = both _ _ none in ap₂ (λ (a b : Bool). a && b) p.0 (none_given id arguments numbers p.1)

numbers_walked : (name : Text) (rules : List Rule) (arguments : List NumberArgument) (numbers : List ℕ) (place : ℕ) (held : Held) (rows : List Row) → IsHeld rules held rows
    → HaveRules rules place arguments → are_plain_numbers arguments ≡ true → AreInRange arguments numbers → place + length arguments < usize_max
    → list_all (λ (other : NumberArgument × ℕ). not (has_row other.0.id rows)) (given_to arguments numbers) ≡ true
    → IsWalked name rules place held (map decimal numbers) (rows ++ map given_row (given_to arguments numbers))
numbers_walked name rules [] [] place held rows is have plain range low new = record {
  end = at_place place held;
  passes = none_left (built_with name rules).top (at_place place held);
  reached = refl;
  is_held = subst (IsHeld rules held) (sym (append_none rows)) is;
}
numbers_walked name rules [] (number ∷ numbers) place held rows is have plain range low new = absurd range
numbers_walked name rules (argument ∷ arguments) [] place held rows is have plain range low new = absurd range
numbers_walked name rules (argument ∷ arguments) (number ∷ numbers) place held rows is have plain range low new =
    let p = both (not (is_some argument.default)) _ plain in
    let most : argument.most < 2 ^ 64 = ltb-true argument.most (2 ^ 64) (both _ _ p.1).0 in
    let q = both _ _ (both (nat_lt argument.most (2 ^ 64)) _ p.1).1 in
    let below = range.1 in
    let fits : number < 2 ^ 64 = omega (arith, most, below) in
    let under : place < usize_max = omega (arith, low) in
    let news = both _ _ new in
    let after = number_held rules (argument, number) None (Some place) [] true have.1 range.0 below fits held rows is (is_not _ news.0) in
    let rest = numbers_walked name rules arguments numbers (suc place) (held_told rules held (argument, number)) (rows ++ given_row (argument, number) ∷ []) after have.2 q.1 range.2 (omega (arith, low))
    (still_new rows (argument, number) (given_to arguments numbers) news.1 (none_given argument.id arguments numbers q.0)) in
    let step = word_walked name rules held rows is place under (argument, number) have.0 fits in
    record {
      end = rest.end;
      passes = pass_more (built_with name rules).top (at_place place held) (at_place (suc place) (held_told rules held (argument, number))) (decimal number) (map decimal numbers)
          (word_turn name rules held rows is place under (argument, number) have.0 fits) step rest.passes;
      reached = ap (λ (w : Walk). fold (walked rules []) w (map decimal numbers)) step ∙ rest.reached;
      is_held = subst (IsHeld rules rest.end.held) (push_more rows (given_row (argument, number)) (map given_row (given_to arguments numbers))) rest.is_held;
    }

-- ---- after the walk

numbers_pass : (arguments : List NumberArgument) (place : ℕ) → list_all default_passes (word_rules place arguments) ≡ true
numbers_pass [] place = refl
numbers_pass (argument ∷ arguments) place = numbers_pass arguments (suc place)

numbers_free : (arguments : List NumberArgument) (place : ℕ) → list_all (λ rule. rule.is_free) (word_rules place arguments) ≡ true
numbers_free [] place = refl
numbers_free (argument ∷ arguments) place = numbers_free arguments (suc place)

-- no default is taken
none_added : (arguments : List NumberArgument) (place : ℕ) (rows : List Row) → fold with_default rows (word_rules place arguments) ≡ rows
none_added [] place rows = refl
none_added (argument ∷ arguments) place rows = ap (λ (r : List Row). fold with_default r (word_rules (suc place) arguments)) (same (has_row argument.id rows)) ∙ none_added arguments (suc place) rows
  where
    same : (b : Bool) → (if b then rows else rows) ≡ rows
    same true = refl
    same false = refl

-- each number is found by its id
AreFound : List Row → List NumberArgument → List ℕ → Type 0
AreFound rows [] numbers = Unit {0}
AreFound rows (argument ∷ arguments) [] = Unit {0}
AreFound rows (argument ∷ arguments) (number ∷ numbers) = (find (λ (r : Row). bytes_eq r.id argument.id) rows ≡ Some (given_row (argument, number))) × AreFound rows arguments numbers

found_behind : (first : NumberArgument × ℕ) (rows : List Row) (arguments : List NumberArgument) (numbers : List ℕ) → list_all (λ (other : NumberArgument). not (bytes_eq other.id first.0.id)) arguments ≡ true
    → AreFound rows arguments numbers → AreFound (given_row first ∷ rows) arguments numbers
unfolding AreFound
found_behind first rows [] numbers others found = tt
found_behind first rows (argument ∷ arguments) [] others found = tt
found_behind first rows (argument ∷ arguments) (number ∷ numbers) others found =
    let p = both _ _ others in
    (ap (λ b. cond b (Some (given_row first)) (find (λ (r : Row). bytes_eq r.id argument.id) rows)) (other_bytes argument.id first.0.id (is_not _ p.0)) ∙ found.0, found_behind first rows arguments numbers p.1 found.1)

all_found : (arguments : List NumberArgument) (numbers : List ℕ) → are_plain_numbers arguments ≡ true → AreFound (map given_row (given_to arguments numbers)) arguments numbers
unfolding AreFound
all_found [] numbers plain = tt
all_found (argument ∷ arguments) [] plain = tt
all_found (argument ∷ arguments) (number ∷ numbers) plain =
    let q = both _ _ (both (nat_lt argument.most (2 ^ 64)) _ (both (not (is_some argument.default)) _ plain).1).1 in (
      ap (λ b. cond b (Some (given_row (argument, number))) (find (λ (r : Row). bytes_eq r.id argument.id) (map given_row (given_to arguments numbers)))) (same_bytes argument.id),
      found_behind (argument, number) (map given_row (given_to arguments numbers)) arguments numbers q.0 (all_found arguments numbers q.1),
    )

-- what is wanted is there
all_wanted : (arguments : List NumberArgument) (numbers : List ℕ) (place : ℕ) (rows : List Row) → AreInRange arguments numbers → AreFound rows arguments numbers
    → list_all (λ rule. not rule.required || is_given rule.id rows) (word_rules place arguments) ≡ true
unfolding AreFound
all_wanted [] numbers place rows range found = refl
all_wanted (argument ∷ arguments) [] place rows range found = absurd range
all_wanted (argument ∷ arguments) (number ∷ numbers) place rows range found =
    ap₂ (λ (o : Option Row) (b : Bool). option_map_or (λ r. explicit_source r.source) o false && b) found.0 (all_wanted arguments numbers (suc place) rows range.2 found.1)

module _ (name : Text) (arguments : List NumberArgument) (numbers : List ℕ) (plain : are_plain_numbers arguments ≡ true) (range : AreInRange arguments numbers) (few : length arguments < 1000) where
  abbrev rules : List Rule
  rules = word_rules 1 arguments

  abbrev rows : List Row
  rows = map given_row (given_to arguments numbers)

  words_walked : IsWalked name rules 1 nothing_held (map decimal numbers) rows
  words_walked =
      numbers_walked name rules arguments numbers 1 nothing_held [] (record { settled = refl; passes = refl; skip = refl }) (have_rules arguments 1 plain) plain range (omega (arith, few))
      (all_new (given_to arguments numbers))
    where
      all_new : (others : List (NumberArgument × ℕ)) → list_all (λ (other : NumberArgument × ℕ). not (has_row other.0.id [])) others ≡ true
      all_new [] = refl
      all_new (other ∷ others) = all_new others

  rules_filled : filled_from 1 (map number_rule arguments) ≡ rules
  rules_filled = numbers_filled arguments 1 plain (omega (arith, few))

  rows_at_end : finished rules words_walked.end.held ≡ rows
  rows_at_end = none_added arguments 1 _ ∙ words_walked.is_held.settled

  numbers_valid : is_valid (built_with name rules).top rows false ≡ true
  numbers_valid = ap₂ (λ (a b : Bool). a && b) (numbers_free arguments 1) (all_wanted arguments numbers 1 rows range (all_found arguments numbers plain))

  numbers_taken : is_simple (app_with name (map number_rule arguments)) ≡ true → takes (app_with name (map number_rule arguments)) (name ∷ map decimal numbers) ≡ true
  numbers_taken simple =
      let top : Shape = (built_with name rules).top in
      let level : level_passes top [] nothing_held (map decimal numbers) false ≡ true =
      ap₂ (λ (p : Bool) (w : Walk). p && (settle_passes rules false w.held && (list_all default_passes rules && is_valid top (finished rules w.held) false))) words_walked.passes words_walked.reached
      ∙ ap₂ (λ (p q : Bool). p && (q && is_valid top (finished rules words_walked.end.held) false)) words_walked.is_held.passes (numbers_pass arguments 1)
      ∙ ap (λ (r : List Row). is_valid top r false) rows_at_end ∙ numbers_valid in
      ap₂ (λ (p : Bool) (r : List Rule). p && built_takes (built_with name r) nothing_held (map decimal numbers)) simple rules_filled
      ∙ leaf_takes (built_with name rules) nothing_held (map decimal numbers) refl level

  rows_found : matches_of (app_with name (map number_rule arguments)) (name ∷ map decimal numbers) ≡ rows
  rows_found =
      ap (λ (r : List Rule). finished r (walk r [] nothing_held (map decimal numbers)).held) rules_filled
      ∙ ap (λ (w : Walk). finished rules w.held) words_walked.reached ∙ rows_at_end

  number_stated : (argument : NumberArgument) (number : ℕ) → number < 2 ^ 64 → find (λ (r : Row). bytes_eq r.id argument.id) rows ≡ Some (given_row (argument, number))
      → States (app_with name (map number_rule arguments)) (name ∷ map decimal numbers) argument.id number
  unfolding States
  number_stated argument number fits found = (decimal number, ap (one_of argument.id) rows_found ∙ ap (option_and_then row_text) found, sym (decimal_text number fits).number)

  numbers_stated : (some : List NumberArgument) (values : List ℕ) → are_plain_numbers some ≡ true → AreInRange some values → AreFound rows some values
      → StatesValues (app_with name (map number_rule arguments)) (name ∷ map decimal numbers) some values
  unfolding AreFound
  numbers_stated [] [] plain range found = tt
  numbers_stated [] (value ∷ values) plain range found = absurd range
  numbers_stated (argument ∷ some) [] plain range found = absurd range
  numbers_stated (argument ∷ some) (value ∷ values) plain range found =
      let p = both (not (is_some argument.default)) _ plain in
      let most : argument.most < 2 ^ 64 = ltb-true argument.most (2 ^ 64) (both _ _ p.1).0 in
      let q = both _ _ (both (nat_lt argument.most (2 ^ 64)) _ p.1).1 in
      let below = range.1 in
      (number_stated argument value (omega (arith, most, below)) found.0, numbers_stated some values q.1 range.2 found.1)

  -- clap takes the plainest words for numbers, and states them
  pub numbers_spelled : is_simple (app_with name (map number_rule arguments)) ≡ true → AreTaken name arguments (name ∷ map decimal numbers) numbers
  numbers_spelled simple = record { taken = numbers_taken simple; stated = numbers_stated arguments numbers plain range (all_found arguments numbers plain) }
