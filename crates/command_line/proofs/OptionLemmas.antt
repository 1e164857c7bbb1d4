-- Lists of words that give options their numbers, which clap takes.
use Rattle.std.proofs.Common.{◌≡◌, ◌⊎◌, ◌∙◌, ◌&&◌, ◌||◌, ◌==◌, ◌++◌, inl, inr, ◌<◌, ◌≤◌, ◌^◌, ℕ, Bool, true, false, true≢false, List, [], ◌∷◌, Option, Some, None, is_some, not, map, fold, refl, ap, ap₂, sym, subst, arith, cond}
use Rattle.std.specs.Prelude.{decimal, find, flat_map, if◌then◌else◌, nat_lt, option_and_then, option_map, unwrap_or}
use Rattle.std.specs.Option.{option_or, option_to_list}
use Rattle.std.specs.List.{before_first, list_all, list_any}
use Rattle.std.specs.Str.{bytes_eq}
use Rattle.std.proofs.Math.Bool.{or-false}
use Rattle.std.proofs.lemmas.Bool.{ltb-true}
use Rattle.std.proofs.lemmas.Slice.Eq.{bytes_eq-Decides}
use Rattle.std.proofs.lemmas.List.Folds.{find-append, list_any-append}
use Rattle.clap.specs.Words.{App, Rule, Row, Shape, Text, built, is_simple, matches_of, new_rule, one_of, takes}
use Rattle.clap.specs.Lexer.{has_byte, long_of}
use Rattle.clap.specs.Simple.{filled, filled_from, index_after, on_top, with_index}
use Rattle.clap.specs.Walk.{Held, Walk, arg_by_id, arg_by_long, at_row, default_rows, finished, has_long, has_row, is_empty, nothing_held, reading_by, row_text, settled_rows, more_values, used_by_id, walk, walked, with_default, with_values, without}
use Rattle.clap.specs.Takes.{built_takes, default_passes, is_given, is_valid, level_passes, settle_passes, turn_passes, walk_passes}
use Rattle.clap.specs.ValueTests.{accepts}
use Rattle.clap.specs.declared.builder.action.ArgAction.TheVariants.{Set}
use Rattle.clap.specs.declared.builder.value_parser.Reading.TheVariants.{AsWritten}
use Rattle.clap.specs.declared.builder.value_parser.ValueParser.TheVariants.{Unsigned}
use Rattle.clap.specs.declared.parser.matches.ValueSource.TheVariants.{DefaultValue, CommandLine}
use Rattle.clap.proofs.TakesLemmas.{leaf_takes}
use Rattle.clap.proofs.WalkLemmas.{both, find-map}
use Rattle.command_line.specs.Commands.{plain_app}
use Rattle.command_line.specs.Numbers.{AreInRange, GivesOptions, IsDefault, NumberArgument, States, may_be_left_out, number_rule, option_words}
use Rattle.command_line.specs.Inner.Found.{StatesValues}
use Rattle.command_line.proofs.TakenLemmas.{after, decimal_text, none_left, pass_more, value_passes, value_walked, waits}

-- ---- the rules of options

-- an argument that takes one number, as clap keeps it in a built command
abbrev pub number_entry : NumberArgument → Option Text → Option ℕ → List Text → Bool → Rule
number_entry argument long index defaults required = record (new_rule argument.id) {
  long = long;
  index = index;
  action = Some Set;
  range = Some (record { start_inclusive = 1; end_inclusive = 1 });
  parser = Some (Unsigned argument.least argument.most);
  defaults = defaults;
  required = required;
}

-- an option
abbrev pub option_rule : NumberArgument → Rule
option_rule argument = number_entry argument (Some argument.id) None (option_to_list argument.default) false

one_filled : (argument : NumberArgument) (i : ℕ) → is_some argument.default ≡ true
    → (with_index i (filled (number_rule argument)) ≡ option_rule argument) × (index_after i (number_rule argument) ≡ i)
one_filled argument i left = go argument.default refl left
  where
    Filled : Option Text → Type 0
    Filled o = (with_index i (filled (number_rule (record argument { default = o }))) ≡ option_rule (record argument { default = o }))
        × (index_after i (number_rule (record argument { default = o })) ≡ i)

    go : (o : Option Text) → argument.default ≡ o → is_some o ≡ true → Filled argument.default
    go None is left = cc
    go (Some digits) is left = subst Filled (sym is) (refl, refl)

pub options_filled : (arguments : List NumberArgument) (i : ℕ) → may_be_left_out arguments ≡ true → filled_from i (map number_rule arguments) ≡ map option_rule arguments
options_filled [] i left = refl
options_filled (argument ∷ arguments) i left =
    let p = both _ _ left in
    let here = one_filled argument i p.0 in
    ap₂ (λ (rule : Rule) (rules : List Rule). rule ∷ rules) here.0 (ap (λ k. filled_from k (map number_rule arguments)) here.1 ∙ options_filled arguments i p.1)

-- ---- an id that is a word of its own

-- it has a first byte and no `=`
abbrev pub is_word : Text → Bool
is_word id = not (is_empty id) && (not (has_byte 61 id) && bytes_eq (before_first (λ x. x == 61) id) id)

-- the number of an option may be given, and left out
abbrev pub is_plain_option : NumberArgument → Bool
is_plain_option argument = is_word argument.id && (nat_lt argument.most (2 ^ 64) && list_all (accepts false (Unsigned argument.least argument.most)) (option_to_list argument.default))

-- and no two options have the same id
abbrev pub are_plain_options : List NumberArgument → Bool
are_plain_options [] = true
are_plain_options (argument ∷ arguments) = is_plain_option argument && (list_all (λ other. not (bytes_eq other.id argument.id)) arguments && are_plain_options arguments)

pub is_not : (b : Bool) → not b ≡ true → b ≡ false
is_not true e = cc
is_not false e = refl

pub same_bytes : (a : Text) → bytes_eq a a ≡ true
same_bytes a = (bytes_eq-Decides a a).1 refl

pub other_bytes : (a b : Text) → bytes_eq a b ≡ false → bytes_eq b a ≡ false
other_bytes a b other = go (bytes_eq b a) refl
  where
    go : (t : Bool) → bytes_eq b a ≡ t → t ≡ false
    go true is = absurd (true≢false (sym ((bytes_eq-Decides a b).1 (sym ((bytes_eq-Decides b a).0 is))) ∙ other))
    go false is = refl

dashed_long : (id : Text) → is_word id ≡ true → (long_of (45 ∷ 45 ∷ id) ≡ Some (id, None)) × (bytes_eq (45 ∷ 45 ∷ id) (45 ∷ 45 ∷ []) ≡ false)
dashed_long [] word = cc
dashed_long (x ∷ xs) word =
    let p = both _ _ (both (not (is_empty (x ∷ xs))) _ word).1 in
    let before : before_first (λ y. y == 61) (x ∷ xs) ≡ x ∷ xs = (bytes_eq-Decides _ _).0 p.1 in
    let none : has_byte 61 (x ∷ xs) ≡ false = is_not _ p.0 in
    (rw (none, before) refl, refl)

-- ---- rows

-- a search with no answer finds nothing
any_found : {X : Type 0} (p : X → Bool) (xs : List X) → list_any p xs ≡ is_some (find p xs)
any_found p [] = refl
any_found p (x ∷ xs) = go (p x) (any_found p xs)
  where
    go : (b : Bool) → list_any p xs ≡ is_some (find p xs) → (b || list_any p xs) ≡ is_some (cond b (Some x) (find p xs))
    go true e = refl
    go false e = e

-- where no row has the id, a new one comes last
pub row_last : (id : Text) (change : Row → List Row) (missing rows : List Row) → has_row id rows ≡ false → at_row id change missing rows ≡ rows ++ missing
row_last id change missing [] none = refl
row_last id change missing (r ∷ rs) none = go (bytes_eq r.id id) refl none (λ rest. row_last id change missing rs rest)
  where
    go : (b : Bool) → bytes_eq r.id id ≡ b → (b || has_row id rs) ≡ false → (has_row id rs ≡ false → at_row id change missing rs ≡ rs ++ missing)
        → at_row id change missing (r ∷ rs) ≡ r ∷ rs ++ missing
    go true is none rest = absurd (true≢false none)
    go false is none rest = rw is (ap (λ rows. r ∷ rows) (rest none))

pub append_none : {X : Type 0} (xs : List X) → xs ++ [] ≡ xs
append_none [] = refl
append_none (x ∷ xs) = ap (λ ys. x ∷ ys) (append_none xs)

-- a given option, as clap keeps it
abbrev pub given_row : NumberArgument × ℕ → Row
given_row given = record {
  id = given.0.id;
  values = decimal given.1 ∷ [];
  count = None;
  source = Some CommandLine;
  reading = AsWritten;
}

-- the option has its rule among these, and its number is in its range
pub record IsGiven (arguments : List NumberArgument) (given : NumberArgument × ℕ) : Type 0 where
  pub found : find (λ (other : NumberArgument). bytes_eq other.id given.0.id) arguments ≡ Some given.0
  pub word : is_word given.0.id ≡ true
  pub above : given.0.least ≤ given.1
  pub below : given.1 ≤ given.0.most
  pub fits : given.1 < 2 ^ 64

-- none of these has the id
abbrev pub none_has : Text → List (NumberArgument × ℕ) → Bool
none_has id = list_all (λ other. not (bytes_eq other.0.id id))

-- each is given, and no two have one id
abbrev pub AreGiven : List NumberArgument → List (NumberArgument × ℕ) → Type 0
AreGiven arguments [] = Unit {0}
AreGiven arguments (given ∷ others) = IsGiven arguments given × (none_has given.0.id others ≡ true) × AreGiven arguments others

rule_by_id : (arguments : List NumberArgument) (argument : NumberArgument) → find (λ (other : NumberArgument). bytes_eq other.id argument.id) arguments ≡ Some argument
    → arg_by_id (map option_rule arguments) argument.id ≡ Some (option_rule argument)
rule_by_id arguments argument found = sym (find-map (λ (rule : Rule). bytes_eq rule.id argument.id) option_rule arguments) ∙ ap (option_map option_rule) found

rule_by_long : (arguments : List NumberArgument) (argument : NumberArgument) → find (λ (other : NumberArgument). bytes_eq other.id argument.id) arguments ≡ Some argument
    → arg_by_long (map option_rule arguments) argument.id ≡ Some (option_rule argument)
rule_by_long arguments argument found =
    sym (find-map (λ (rule : Rule). not (is_some rule.index) && has_long rule argument.id) option_rule arguments)
    ∙ ap (option_map option_rule) ((λ i. find (λ (other : NumberArgument). or-false (bytes_eq other.id argument.id) i) arguments) ∙ found)

-- ---- the walk over the words of options

-- what is held after some numbers: those are settled, but for the last, whose use passes
pub record IsHeld (rules : List Rule) (held : Held) (rows : List Row) : Type 0 where
  pub settled : settled_rows rules held.pending held.rows ≡ rows
  pub passes : settle_passes rules false held ≡ true
  pub skip : held.skip ≡ 0

-- what is held once an argument has its number
abbrev pub held_told : List Rule → Held → NumberArgument × ℕ → Held
held_told rules held given = record { rows = settled_rows rules held.pending held.rows; pending = Some (given.0.id, decimal given.1 ∷ []); skip = held.skip }

module _ (rules : List Rule) (given : NumberArgument × ℕ) (long : Option Text) (index : Option ℕ) (defaults : List Text) (required : Bool)
    (found : arg_by_id rules given.0.id ≡ Some (number_entry given.0 long index defaults required)) (above : given.0.least ≤ given.1) (below : given.1 ≤ given.0.most) (fits : given.1 < 2 ^ 64)
    (held : Held) (rows : List Row) (is : IsHeld rules held rows) (new : has_row given.0.id rows ≡ false) where
  none_yet : has_row given.0.id (settled_rows rules held.pending held.rows) ≡ false
  none_yet = ap (has_row given.0.id) is.settled ∙ new

  told_settled : settled_rows rules (held_told rules held given).pending (held_told rules held given).rows ≡ rows ++ given_row given ∷ []
  told_settled =
      let left : without given.0.id (settled_rows rules held.pending held.rows) ≡ settled_rows rules held.pending held.rows =
      row_last given.0.id (λ r. []) [] (settled_rows rules held.pending held.rows) none_yet ∙ append_none (settled_rows rules held.pending held.rows) in
      ap (λ (o : Option Rule). used_by_id o (decimal given.1 ∷ []) (settled_rows rules held.pending held.rows)) found
      ∙ ap (with_values given.0.id AsWritten CommandLine (decimal given.1 ∷ [])) (left ∙ is.settled)
      ∙ row_last given.0.id (more_values CommandLine (decimal given.1 ∷ [])) (given_row given ∷ []) rows new

  number_passes : accepts false (Unsigned given.0.least given.0.most) (decimal given.1) ≡ true
  number_passes = (decimal_text given.1 fits).passes given.0.least given.0.most above below

  told_passes : settle_passes rules false (held_told rules held given) ≡ true
  told_passes = rw (found, none_yet, number_passes) refl

  pub number_held : IsHeld rules (held_told rules held given) (rows ++ given_row given ∷ [])
  number_held = record { settled = told_settled; passes = told_passes; skip = is.skip }

-- one option is met, and then its number
module _ (arguments : List NumberArgument) (top : Shape) (same : top.rules ≡ map option_rule arguments) (again : top.args_override_self ≡ false) (held : Held) (rows : List Row) (is : IsHeld (map option_rule arguments) held rows)
    (given : NumberArgument × ℕ) (fine : IsGiven arguments given) (new : has_row given.0.id rows ≡ false) where
  abbrev rules : List Rule
  rules = map option_rule arguments

  abbrev text : Text
  text = decimal given.1

  abbrev met : Held
  met = record { rows = settled_rows rules held.pending held.rows; pending = Some (given.0.id, []); skip = held.skip }

  abbrev told : Held
  told = held_told rules held given

  met_walked : walked rules [] (after held) (45 ∷ 45 ∷ given.0.id) ≡ waits met given.0.id
  unfolding walked
  met_walked =
      let word = dashed_long given.0.id fine.word in
      rw (word.1, word.0, rule_by_long arguments given.0 fine.found) refl

  told_walked : walked rules [] (waits met given.0.id) text ≡ after told
  told_walked = value_walked rules met given.0.id text (decimal_text given.1 fine.fits).plain ∙ rw (rule_by_id arguments given.0 fine.found, same_bytes given.0.id) refl

  met_turns : turn_passes top [] (after held) (45 ∷ 45 ∷ given.0.id) ≡ true
  met_turns =
      let word = dashed_long given.0.id fine.word in
      rw (word.1, word.0, same, again, rule_by_long arguments given.0 fine.found, is.passes) refl

  told_turns : turn_passes top [] (waits met given.0.id) text ≡ true
  told_turns = value_passes top met given.0.id text (decimal_text given.1 fine.fits).plain

  told_held : IsHeld rules told (rows ++ given_row given ∷ [])
  told_held =
      number_held rules given (Some given.0.id) None (option_to_list given.0.default) false (rule_by_id arguments given.0 fine.found) fine.above fine.below fine.fits held rows is new

  -- the walk over the words after it
  told_further : (rest : List Text) → walk_passes top [] (after told) rest ≡ true → walk_passes top [] (after held) ((45 ∷ 45 ∷ given.0.id) ∷ text ∷ rest) ≡ true
  told_further rest others =
      pass_more top (after held) (waits met given.0.id) (45 ∷ 45 ∷ given.0.id) (text ∷ rest) met_turns (ap (λ r. walked r [] (after held) (45 ∷ 45 ∷ given.0.id)) same ∙ met_walked)
      (pass_more top (waits met given.0.id) (after told) text rest told_turns (ap (λ r. walked r [] (waits met given.0.id) text) same ∙ told_walked) others)

  told_reached : walked rules [] (walked rules [] (after held) (45 ∷ 45 ∷ given.0.id)) text ≡ after told
  told_reached = ap (λ (w : Walk). walked rules [] w text) met_walked ∙ told_walked

-- the ids of the others are new after it
pub still_new : (rows : List Row) (given : NumberArgument × ℕ) (others : List (NumberArgument × ℕ)) → list_all (λ (other : NumberArgument × ℕ). not (has_row other.0.id rows)) others ≡ true
    → none_has given.0.id others ≡ true → list_all (λ (other : NumberArgument × ℕ). not (has_row other.0.id (rows ++ given_row given ∷ []))) others ≡ true
still_new rows given [] new none = refl
still_new rows given (other ∷ others) new none =
    let p = both _ _ new in
    let q = both _ _ none in
    let missing : has_row other.0.id (rows ++ given_row given ∷ []) ≡ false =
    list_any-append (λ (r : Row). bytes_eq r.id other.0.id) rows (given_row given ∷ [])
    ∙ ap₂ (λ (a b : Bool). a || (b || false)) (is_not _ p.0) (other_bytes other.0.id given.0.id (is_not _ q.0)) in
    ap₂ (λ (a b : Bool). not a && b) missing (still_new rows given others p.1 q.1)

-- the walk over the words of some options reaches its end
record IsWalked (rules : List Rule) (top : Shape) (held : Held) (words : List Text) (rows : List Row) : Type 0 where
  end : Held
  passes : walk_passes top [] (after held) words ≡ true
  reached : fold (walked rules []) (after held) words ≡ after end
  is_held : IsHeld rules end rows

pub push_more : {X : Type 0} (xs : List X) (x : X) (ys : List X) → (xs ++ x ∷ []) ++ ys ≡ xs ++ x ∷ ys
push_more [] x ys = refl
push_more (z ∷ zs) x ys = ap (λ l. z ∷ l) (push_more zs x ys)

module _ (arguments : List NumberArgument) (top : Shape) (same : top.rules ≡ map option_rule arguments) (again : top.args_override_self ≡ false) where
  given_walked : (given : List (NumberArgument × ℕ)) (held : Held) (rows : List Row) → IsHeld (map option_rule arguments) held rows → AreGiven arguments given
      → list_all (λ (other : NumberArgument × ℕ). not (has_row other.0.id rows)) given ≡ true
      → IsWalked (map option_rule arguments) top held (flat_map option_words given) (rows ++ map given_row given)
  given_walked [] held rows is fine new = record {
    end = held;
    passes = none_left top (after held);
    reached = refl;
    is_held = subst (IsHeld (map option_rule arguments) held) (sym (append_none rows)) is;
  }
  given_walked (given ∷ others) held rows is fine new =
      let p = both _ _ new in
      let missing = is_not _ p.0 in
      let rest = given_walked others (told arguments top same again held rows is given fine.0 missing) (rows ++ given_row given ∷ []) (told_held arguments top same again held rows is given fine.0 missing) fine.2
      (still_new rows given others p.1 fine.1) in
      record {
        end = rest.end;
        passes = told_further arguments top same again held rows is given fine.0 missing (flat_map option_words others) rest.passes;
        reached =
            ap (λ (w : Walk). fold (walked (map option_rule arguments) []) w (flat_map option_words others)) (told_reached arguments top same again held rows is given fine.0 missing)
            ∙ rest.reached;
        is_held = subst (IsHeld (map option_rule arguments) rest.end) (push_more rows (given_row given) (map given_row others)) rest.is_held;
      }

-- ---- after the walk

or_true : (b : Bool) → (b || true) ≡ true
or_true true = refl
or_true false = refl

options_pass : (arguments : List NumberArgument) → are_plain_options arguments ≡ true → list_all default_passes (map option_rule arguments) ≡ true
options_pass [] plain = refl
options_pass (argument ∷ arguments) plain =
    let p = both (is_plain_option argument) _ plain in
    let q = both _ _ (both (is_word argument.id) _ p.0).1 in
    let here : default_passes (option_rule argument) ≡ true = ap (λ (b : Bool). is_empty (option_to_list argument.default) || b) q.1 ∙ or_true (is_empty (option_to_list argument.default)) in
    ap₂ (λ (a b : Bool). a && b) here (options_pass arguments (both _ _ p.1).1)

options_free : (arguments : List NumberArgument) → list_all (λ rule. rule.is_free) (map option_rule arguments) ≡ true
options_free [] = refl
options_free (argument ∷ arguments) = options_free arguments

none_wanted : (arguments : List NumberArgument) (rows : List Row) → list_all (λ rule. not rule.required || is_given rule.id rows) (map option_rule arguments) ≡ true
none_wanted [] rows = refl
none_wanted (argument ∷ arguments) rows = none_wanted arguments rows

-- a command with some rules, as it is and as it is built
abbrev pub app_with : Text → List Rule → App
app_with name rules = on_top (λ shape. record shape { rules = rules }) (plain_app name)

abbrev pub built_with : Text → List Rule → App
built_with name rules = record { top = record (built (plain_app name)).top { rules = rules }; subs = [] }

options_valid : (name : Text) (arguments : List NumberArgument) (rows : List Row) → is_valid (built_with name (map option_rule arguments)).top rows false ≡ true
options_valid name arguments rows = ap₂ (λ (a b : Bool). a && b) (options_free arguments) (none_wanted arguments rows)

walked_options : (name : Text) (arguments : List NumberArgument) (given : List (NumberArgument × ℕ)) → AreGiven arguments given
    → IsWalked (map option_rule arguments) (built_with name (map option_rule arguments)).top nothing_held (flat_map option_words given) (map given_row given)
walked_options name arguments given fine =
    given_walked arguments (built_with name (map option_rule arguments)).top refl refl given nothing_held [] (record { settled = refl; passes = refl; skip = refl }) fine (all_new given)
  where
    all_new : (others : List (NumberArgument × ℕ)) → list_all (λ (other : NumberArgument × ℕ). not (has_row other.0.id [])) others ≡ true
    all_new [] = refl
    all_new (other ∷ others) = all_new others

-- clap takes the words
pub options_taken : (name : Text) (arguments : List NumberArgument) (given : List (NumberArgument × ℕ)) → is_simple (app_with name (map number_rule arguments)) ≡ true
    → may_be_left_out arguments ≡ true → are_plain_options arguments ≡ true → AreGiven arguments given
    → takes (app_with name (map number_rule arguments)) (name ∷ flat_map option_words given) ≡ true
options_taken name arguments given simple left plain fine =
    let words = flat_map option_words given in
    let rules = map option_rule arguments in
    let top : Shape = (built_with name rules).top in
    let all = walked_options name arguments given fine in
    let level : level_passes top [] nothing_held words false ≡ true =
    ap₂ (λ (p : Bool) (w : Walk). p && (settle_passes rules false w.held && (list_all default_passes rules && is_valid top (finished rules w.held) false))) all.passes all.reached
    ∙ ap₂ (λ (p q : Bool). p && (q && is_valid top (finished rules all.end) false)) all.is_held.passes (options_pass arguments plain) ∙ options_valid name arguments (finished rules all.end) in
    ap₂ (λ (p : Bool) (r : List Rule). p && built_takes (built_with name r) nothing_held words) simple (options_filled arguments 1 left)
    ∙ leaf_takes (built_with name rules) nothing_held words refl level

-- ---- what it states

-- a row that is there stays
grown : (rows : List Row) (rule : Rule) → (more : List Row) × (with_default rows rule ≡ rows ++ more)
grown rows rule = go (has_row rule.id rows) refl rule.defaults
  where
    go : (b : Bool) → has_row rule.id rows ≡ b → (defaults : List Text)
        → (more : List Row) × ((if has_row rule.id rows then rows else default_rows rule.id (reading_by rule) defaults rows) ≡ rows ++ more)
    go true has defaults = ([], rw has (sym (append_none rows)))
    go false has [] = ([], rw has (sym (append_none rows)))
    go false has (value ∷ values) =
        let row : Row = record { id = rule.id; values = value ∷ values; count = None; source = Some DefaultValue; reading = reading_by rule } in
        (row ∷ [], rw has (row_last rule.id (more_values DefaultValue (value ∷ values)) (row ∷ []) rows has))

kept : (rules : List Rule) (rows : List Row) (id : Text) (row : Row) → find (λ (r : Row). bytes_eq r.id id) rows ≡ Some row
    → find (λ (r : Row). bytes_eq r.id id) (fold with_default rows rules) ≡ Some row
kept [] rows id row there = there
kept (rule ∷ rules) rows id row there =
    let more = grown rows rule in
    kept rules (with_default rows rule) id row (ap (find (λ (r : Row). bytes_eq r.id id)) more.1
    ∙ (find-append (λ (r : Row). bytes_eq r.id id) rows more.0 ∙ ap (λ o. option_or o (find (λ (r : Row). bytes_eq r.id id) more.0)) there))

abbrev default_row : NumberArgument → Text → Row
default_row argument digits = record {
  id = argument.id;
  values = digits ∷ [];
  count = None;
  source = Some DefaultValue;
  reading = AsWritten;
}

-- an option without a row gets one, and no other
added : (first : NumberArgument) (rows : List Row) (digits : Text) → has_row first.id rows ≡ false → first.default ≡ Some digits → with_default rows (option_rule first) ≡ rows ++ default_row first digits ∷ []
added first rows digits none default = rw (none, default) (row_last first.id (more_values DefaultValue (digits ∷ [])) (default_row first digits ∷ []) rows none)

defaulted : (arguments : List NumberArgument) (rows : List Row) (argument : NumberArgument) (digits : Text) → may_be_left_out arguments ≡ true
    → find (λ (other : NumberArgument). bytes_eq other.id argument.id) arguments ≡ Some argument → find (λ (r : Row). bytes_eq r.id argument.id) rows ≡ None → argument.default ≡ Some digits
    → find (λ (r : Row). bytes_eq r.id argument.id) (fold with_default rows (map option_rule arguments)) ≡ Some (default_row argument digits)
defaulted [] rows argument digits left found none default = cc
defaulted (first ∷ arguments) rows argument digits left found none default =
    go (bytes_eq first.id argument.id) refl found (has_row first.id rows) refl first.default refl (both _ _ left).0
    (λ more finds nothing. defaulted arguments more argument digits (both _ _ left).1 finds nothing default)
  where
    go : (b : Bool) → bytes_eq first.id argument.id ≡ b → cond b (Some first) (find (λ (other : NumberArgument). bytes_eq other.id argument.id) arguments) ≡ Some argument
        → (has : Bool) → has_row first.id rows ≡ has → (o : Option Text) → first.default ≡ o → is_some o ≡ true
        → ((more : List Row) → find (λ (other : NumberArgument). bytes_eq other.id argument.id) arguments ≡ Some argument → find (λ (r : Row). bytes_eq r.id argument.id) more ≡ None
        → find (λ (r : Row). bytes_eq r.id argument.id) (fold with_default more (map option_rule arguments)) ≡ Some (default_row argument digits))
        → find (λ (r : Row). bytes_eq r.id argument.id) (fold with_default rows (map option_rule (first ∷ arguments))) ≡ Some (default_row argument digits)
    go b is finds has here None given some rest = cc
    go true is finds has here (Some value) given some rest =
        let one : first ≡ argument = ap (λ (o : Option NumberArgument). unwrap_or o argument) finds in
        let missing : has_row first.id rows ≡ false =
        any_found (λ (r : Row). bytes_eq r.id first.id) rows ∙ ap (λ (a : NumberArgument). is_some (find (λ (r : Row). bytes_eq r.id a.id) rows)) one ∙ ap is_some none in
        let last : with_default rows (option_rule first) ≡ rows ++ default_row argument digits ∷ [] =
        added first rows digits missing (ap (λ (a : NumberArgument). a.default) one ∙ default) ∙ ap (λ (a : NumberArgument). rows ++ default_row a digits ∷ []) one in
        kept (map option_rule arguments) (with_default rows (option_rule first)) argument.id (default_row argument digits)
        (ap (find (λ (r : Row). bytes_eq r.id argument.id)) last ∙ (find-append (λ (r : Row). bytes_eq r.id argument.id) rows (default_row argument digits ∷ [])
        ∙ (ap (λ o. option_or o (find (λ (r : Row). bytes_eq r.id argument.id) (default_row argument digits ∷ []))) none ∙ ap (λ b. cond b (Some (default_row argument digits)) None) (same_bytes argument.id))))
    go false is finds true here (Some value) given some rest = rest _ finds (rw here none)
    go false is finds false here (Some value) given some rest =
        rest (with_default rows (option_rule first)) finds (ap (find (λ (r : Row). bytes_eq r.id argument.id)) (added first rows value here given)
        ∙ (find-append (λ (r : Row). bytes_eq r.id argument.id) rows (default_row first value ∷ [])
        ∙ (ap (λ o. option_or o (find (λ (r : Row). bytes_eq r.id argument.id) (default_row first value ∷ []))) none ∙ ap (λ b. cond b (Some (default_row first value)) None) is)))

-- the option is given with this number, or left out
abbrev IsStated : List (NumberArgument × ℕ) → NumberArgument → ℕ → Type 0
IsStated given argument number = (find (λ (other : NumberArgument × ℕ). bytes_eq other.0.id argument.id) given ≡ Some (argument, number))
    ⊎ ((find (λ (other : NumberArgument × ℕ). bytes_eq other.0.id argument.id) given ≡ None) × IsDefault argument number)

-- and so are all of these
abbrev AreStated : List (NumberArgument × ℕ) → List NumberArgument → List ℕ → Type 0
AreStated given [] [] = Unit {0}
AreStated given [] (number ∷ numbers) = ⊥
AreStated given (argument ∷ arguments) [] = ⊥
AreStated given (argument ∷ arguments) (number ∷ numbers) = IsStated given argument number × AreStated given arguments numbers

-- each of these is found among all by its id
abbrev AreIn : List NumberArgument → List NumberArgument → Type 0
AreIn all [] = Unit {0}
AreIn all (argument ∷ arguments) = (find (λ (other : NumberArgument). bytes_eq other.id argument.id) all ≡ Some argument) × AreIn all arguments

module _ (name : Text) (all : List NumberArgument) (given : List (NumberArgument × ℕ)) (left : may_be_left_out all ≡ true) (fine : AreGiven all given) where
  abbrev app : App
  app = app_with name (map number_rule all)

  abbrev words : List Text
  words = name ∷ flat_map option_words given

  -- what clap finds in the words
  rows_found : matches_of app words ≡ fold with_default (map given_row given) (map option_rule all)
  rows_found =
      let walk_there = walked_options name all given fine in
      ap (λ (r : List Rule). finished r (walk r [] nothing_held (flat_map option_words given)).held) (options_filled all 1 left)
      ∙ ap (λ (w : Walk). finished (map option_rule all) w.held) walk_there.reached
      ∙ ap (λ (rows : List Row). fold with_default rows (map option_rule all)) walk_there.is_held.settled

  option_stated : (argument : NumberArgument) (number : ℕ) → number < 2 ^ 64 → find (λ (other : NumberArgument). bytes_eq other.id argument.id) all ≡ Some argument
      → IsStated given argument number → States app words argument.id number
  unfolding States
  option_stated argument number fits there (inl is) = (
    decimal number,
    ap (one_of argument.id) rows_found ∙ ap (option_and_then row_text) (kept (map option_rule all) (map given_row given) argument.id (given_row (argument, number))
        (sym (find-map (λ (r : Row). bytes_eq r.id argument.id) given_row given) ∙ ap (option_map given_row) is)),
    sym (decimal_text number fits).number,
  )
  option_stated argument number fits there (inr is) = (
    is.1.0,
    ap (one_of argument.id) rows_found ∙ ap (option_and_then row_text) (defaulted all (map given_row given) argument is.1.0 left there
        (sym (find-map (λ (r : Row). bytes_eq r.id argument.id) given_row given) ∙ ap (option_map given_row) is.0) is.1.1),
    is.1.2,
  )

-- ---- the plainest words

none_found : (id : Text) (given : List (NumberArgument × ℕ)) → none_has id given ≡ true → find (λ (other : NumberArgument × ℕ). bytes_eq other.0.id id) given ≡ None
none_found id [] none = refl
none_found id (given ∷ others) none = let p = both _ _ none in ap₂ (λ (b : Bool) (o : Option (NumberArgument × ℕ)). cond b (Some given) o) (is_not _ p.0) (none_found id others p.1)

insert_none : (id : Text) (given : NumberArgument × ℕ) (before after : List (NumberArgument × ℕ)) → bytes_eq given.0.id id ≡ false → none_has id (before ++ after) ≡ true
    → none_has id (before ++ given ∷ after) ≡ true
insert_none id given [] after other none = ap₂ (λ (a b : Bool). not a && b) other none
insert_none id given (first ∷ before) after other none =
    let p = both _ _ none in
    ap₂ (λ (a b : Bool). a && b) p.0 (insert_none id given before after other p.1)

insert_given : (all : List NumberArgument) (given : NumberArgument × ℕ) (before after : List (NumberArgument × ℕ)) → IsGiven all given → none_has given.0.id (before ++ after) ≡ true
    → AreGiven all (before ++ after) → AreGiven all (before ++ given ∷ after)
insert_given all given [] after fine none others = (fine, none, others)
insert_given all given (first ∷ before) after fine none others =
    let p = both _ _ none in
    (others.0, insert_none first.0.id given before after (other_bytes first.0.id given.0.id (is_not _ p.0)) others.1, insert_given all given before after fine p.1 others.2)

insert_found : (given : NumberArgument × ℕ) (before after : List (NumberArgument × ℕ)) → none_has given.0.id (before ++ after) ≡ true
    → find (λ (other : NumberArgument × ℕ). bytes_eq other.0.id given.0.id) (before ++ given ∷ after) ≡ Some given
insert_found given [] after none = ap (λ b. cond b (Some given) (find (λ (other : NumberArgument × ℕ). bytes_eq other.0.id given.0.id) after)) (same_bytes given.0.id)
insert_found given (first ∷ before) after none =
    let p = both _ _ none in
    ap₂ (λ (b : Bool) (o : Option (NumberArgument × ℕ)). cond b (Some first) o) (is_not _ p.0) (insert_found given before after p.1)

insert_other : (id : Text) (given : NumberArgument × ℕ) (before after : List (NumberArgument × ℕ)) → bytes_eq given.0.id id ≡ false
    → find (λ (other : NumberArgument × ℕ). bytes_eq other.0.id id) (before ++ given ∷ after) ≡ find (λ (other : NumberArgument × ℕ). bytes_eq other.0.id id) (before ++ after)
insert_other id given [] after other = ap (λ b. cond b (Some given) (find (λ (o : NumberArgument × ℕ). bytes_eq o.0.id id) after)) other
insert_other id given (first ∷ before) after other = ap (cond (bytes_eq first.0.id id) (Some first)) (insert_other id given before after other)

insert_stated : (arguments : List NumberArgument) (numbers : List ℕ) (given : NumberArgument × ℕ) (before after : List (NumberArgument × ℕ))
    → list_all (λ (other : NumberArgument). not (bytes_eq other.id given.0.id)) arguments ≡ true → AreStated (before ++ after) arguments numbers → AreStated (before ++ given ∷ after) arguments numbers
insert_stated [] [] given before after others stated = tt
insert_stated [] (number ∷ numbers) given before after others stated = absurd stated
insert_stated (argument ∷ arguments) [] given before after others stated = absurd stated
insert_stated (argument ∷ arguments) (number ∷ numbers) given before after others stated =
    let p = both _ _ others in
    let same = insert_other argument.id given before after (other_bytes argument.id given.0.id (is_not _ p.0)) in
    let here : IsStated (before ++ given ∷ after) argument number = elim stated.0 [
      | inl is ↦ inl (same ∙ is)
      | inr is ↦ inr (same ∙ is.0, is.1)
    ] in
    (here, insert_stated arguments numbers given before after p.1 stated.1)

-- what the words of options say of each
record SaysAll (all arguments : List NumberArgument) (numbers : List ℕ) (given : List (NumberArgument × ℕ)) : Type 0 where
  fine : AreGiven all given
  no_other : (id : Text) → list_all (λ (argument : NumberArgument). not (bytes_eq argument.id id)) arguments ≡ true → none_has id given ≡ true
  stated : AreStated given arguments numbers

says_all : (all arguments : List NumberArgument) (numbers : List ℕ) (given : List (NumberArgument × ℕ)) → AreIn all arguments → are_plain_options arguments ≡ true → AreInRange arguments numbers
    → GivesOptions arguments numbers given → SaysAll all arguments numbers given
says_all all [] [] given there plain range gives = subst (SaysAll all [] []) (sym gives) (record { fine = tt; no_other = λ id none. refl; stated = tt })
says_all all [] (number ∷ numbers) given there plain range gives = absurd gives
says_all all (argument ∷ arguments) [] given there plain range gives = absurd gives
says_all all (argument ∷ arguments) (number ∷ numbers) given there plain range (inl is) =
    let p = both (is_plain_option argument) _ plain in
    let q = both _ _ p.1 in
    let rest = says_all all arguments numbers given there.1 q.1 range.2 is.1 in
    record {
      fine = rest.fine;
      no_other = λ id none. rest.no_other id (both _ _ none).1;
      stated = (inr (none_found argument.id given (rest.no_other argument.id q.0), is.0), rest.stated);
    }
says_all all (argument ∷ arguments) (number ∷ numbers) given there plain range (inr is) =
    let p = both (is_plain_option argument) _ plain in
    let q = both _ _ p.1 in
    let before = is.0 in
    let after = is.1 in
    let rest = says_all all arguments numbers (before ++ after) there.1 q.1 range.2 is.3 in
    let none = rest.no_other argument.id q.0 in
    let word = both (is_word argument.id) _ p.0 in
    let most : argument.most < 2 ^ 64 = ltb-true argument.most (2 ^ 64) (both _ _ word.1).0 in
    let below = range.1 in
    let one : IsGiven all (argument, number) = record { found = there.0; word = word.0; above = range.0; below = below; fits = omega (arith, most, below) } in
    subst (SaysAll all (argument ∷ arguments) (number ∷ numbers)) (sym is.2) (record {
      fine = insert_given all (argument, number) before after one none rest.fine;
      no_other = λ id others. let r = both (not (bytes_eq argument.id id)) _ others in insert_none id (argument, number) before after (is_not _ r.0) (rest.no_other id r.1);
      stated = (inl (insert_found (argument, number) before after none), insert_stated arguments numbers (argument, number) before after q.0 rest.stated);
    })

more_in : (first : NumberArgument) (all arguments : List NumberArgument) → list_all (λ (other : NumberArgument). not (bytes_eq other.id first.id)) arguments ≡ true → AreIn all arguments
    → AreIn (first ∷ all) arguments
more_in first all [] others there = tt
more_in first all (argument ∷ arguments) others there =
    let p = both _ _ others in
    let other : bytes_eq first.id argument.id ≡ false = other_bytes argument.id first.id (is_not _ p.0) in
    (ap (λ b. cond b (Some first) (find (λ (o : NumberArgument). bytes_eq o.id argument.id) all)) other ∙ there.0, more_in first all arguments p.1 there.1)

all_in : (all : List NumberArgument) → are_plain_options all ≡ true → AreIn all all
all_in [] plain = tt
all_in (first ∷ all) plain =
    let p = both _ _ (both (is_plain_option first) _ plain).1 in
    (ap (λ b. cond b (Some first) (find (λ (o : NumberArgument). bytes_eq o.id first.id) all)) (same_bytes first.id), more_in first all all p.0 (all_in all p.1))

-- clap takes the plainest words for options, and states their numbers
pub record AreTaken (name : Text) (all : List NumberArgument) (words : List Text) (numbers : List ℕ) : Type 0 where
  pub taken : takes (app_with name (map number_rule all)) words ≡ true
  pub stated : StatesValues (app_with name (map number_rule all)) words all numbers

pub options_spelled : (name : Text) (all : List NumberArgument) (numbers : List ℕ) (given : List (NumberArgument × ℕ)) → is_simple (app_with name (map number_rule all)) ≡ true
    → may_be_left_out all ≡ true → are_plain_options all ≡ true → AreInRange all numbers → GivesOptions all numbers given
    → AreTaken name all (name ∷ flat_map option_words given) numbers
options_spelled name all numbers given simple left plain range gives =
    let says = says_all all all numbers given (all_in all plain) plain range gives in
    record {
      taken = options_taken name all given simple left plain says.fine;
      stated = go all numbers (all_in all plain) plain range says.stated says.fine;
    }
  where
    go : (arguments : List NumberArgument) (values : List ℕ) → AreIn all arguments → are_plain_options arguments ≡ true → AreInRange arguments values → AreStated given arguments values → AreGiven all given
        → StatesValues (app_with name (map number_rule all)) (name ∷ flat_map option_words given) arguments values
    go [] [] there plain range stated fine = tt
    go [] (value ∷ values) there plain range stated fine = absurd stated
    go (argument ∷ arguments) [] there plain range stated fine = absurd stated
    go (argument ∷ arguments) (value ∷ values) there plain range stated fine =
        let p = both (is_plain_option argument) _ plain in
        let most : argument.most < 2 ^ 64 = ltb-true argument.most (2 ^ 64) (both _ _ (both (is_word argument.id) _ p.0).1).0 in
        let below = range.1 in
        (option_stated name all given left fine argument value (omega (arith, most, below)) there.0 stated.0, go arguments values there.1 (both _ _ p.1).1 range.2 stated.1 fine)
