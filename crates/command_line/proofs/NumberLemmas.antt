-- What a parse finds for an argument of a simple command that takes a number.
use Rattle.std.proofs.Common.{◌≡◌, ◌⊎◌, ◌∙◌, ◌<◌, ◌≤◌, ◌^◌, ◌&&◌, ap, ℕ, Bool, true, false, true≢false, List, [], ◌∷◌, length, map, not, Option, Some, None, refl, sym, subst, inl, inr, arith, zero, suc}
use Rattle.std.proofs.lemmas.List.{length-map}
use Rattle.std.specs.Prelude.{codes, Ok, Err, Result, is_some, unwrap_or}
use Rattle.std.specs.List.{list_all, slice_index_or}
use Rattle.std.specs.Str.{bytes_eq}
use Rattle.std.specs.Str.Parse.{ParsesUnsigned}
use Rattle.clap.specs.Facts.{args_of}
use Rattle.clap.specs.Built.{IsParsedFrom}
use Rattle.clap.specs.Matches.{ReadsOne, found_of, one_text}
use Rattle.clap.specs.Values.{IsUnsignedIn}
use Rattle.clap.specs.Walk.{Rule, is_empty, one_of, rule_of}
use Rattle.clap.specs.Simple.{App, app_of, has_simple_rules}
use Rattle.clap.specs.Words.{Text}
use Rattle.clap.specs.declared.builder.arg.Arg.{Arg}
use Rattle.clap.specs.declared.builder.command.Command.{Command}
use Rattle.clap.specs.declared.builder.command.Command.TheViews.{out-Command}
use Rattle.clap.specs.declared.builder.value_parser.ValueParser.TheVariants.{Unsigned}
use Rattle.clap.specs.declared.parser.matches.ArgMatches.{ArgMatches}
use Rattle.clap.proofs.WalkLemmas.{both, one_text-rows}
use Rattle.command_line.specs.Numbers.{NumberArgument, States, number_of_text, number_rule}
use Rattle.command_line.specs.Inner.Found.{FindsInRange, FindsNumber, FindsText, IsExact}
use Rattle.command_line.proofs.SimpleLemmas.{no_globals, plain_command, rule_at, set_option, wants_default}
use Rattle.command_line.proofs.FoundLemmas.{IsSetOption, default_found, required_found}
use Rattle.std.specs.Option.{option_to_list}

-- of the rules, only the one at a place may have the id
abbrev pub only_at : List Rule → ℕ → Text → Bool
only_at [] place id = true
only_at (rule ∷ rules) zero id = list_all (λ other. not (bytes_eq other.id id)) rules
only_at (rule ∷ rules) (suc place) id = not (bytes_eq rule.id id) && only_at rules place id

-- the id is none of those that clap gives itself
abbrev pub is_own_id : Text → Bool
is_own_id id = not (is_empty id) && (not (bytes_eq id (codes "help")) && not (bytes_eq id (codes "version")))

-- the command is simple, and has the argument at a place
pub record HasNumberArgument (app : App) (place : ℕ) (argument : NumberArgument) : Type 0 where
  pub simple : has_simple_rules app.top ≡ true
  pub negates : app.top.subcommand_negates_reqs ≡ false
  pub free : list_all (λ rule. rule.is_free) app.top.rules ≡ true
  pub below : place < length app.top.rules
  pub at : (other : Rule) → slice_index_or app.top.rules place other ≡ number_rule argument
  pub only : only_at app.top.rules place argument.id ≡ true
  pub own : is_own_id argument.id ≡ true

pub not_both : (b : Bool) → not b ≡ true → b ≡ true → ⊥
not_both true denied held = true≢false (sym denied)
not_both false denied held = true≢false (sym held)

none_at : (rules : List Rule) (id : Text) (j : ℕ) (other : Rule) → list_all (λ rule. not (bytes_eq rule.id id)) rules ≡ true → j < length rules
    → bytes_eq (slice_index_or rules j other).id id ≡ true → ⊥
none_at [] id j other none under same = omega arith
none_at (rule ∷ rules) id zero other none under same = not_both (bytes_eq rule.id id) (both _ _ none).0 same
none_at (rule ∷ rules) id (suc j) other none under same = none_at rules id j other (both _ _ none).1 (omega arith) same

only_place : (rules : List Rule) (place : ℕ) (id : Text) (j : ℕ) (other : Rule) → only_at rules place id ≡ true → j < length rules
    → bytes_eq (slice_index_or rules j other).id id ≡ true → j ≡ place
only_place [] place id j other only under same = absurd (omega arith)
only_place (rule ∷ rules) zero id zero other only under same = refl
only_place (rule ∷ rules) zero id (suc j) other only under same = absurd (none_at rules id j other only (omega arith) same)
only_place (rule ∷ rules) (suc place) id zero other only under same = absurd (not_both (bytes_eq rule.id id) (both _ _ only).0 same)
only_place (rule ∷ rules) (suc place) id (suc j) other only under same = ap suc (only_place rules place id j other (both _ _ only).1 (omega arith) same)

own_not_empty : (id : Text) → is_own_id id ≡ true → id ≡ [] → ⊥
own_not_empty id own is = not_both (is_empty id) (both _ _ own).0 (ap is_empty is)

own_not_auto : (id : Text) → is_own_id id ≡ true → (id ≡ codes "help") ⊎ (id ≡ codes "version") → ⊥
own_not_auto id own is =
    let rest = both (not (bytes_eq id (codes "help"))) _ (both (not (is_empty id)) _ own).1 in
    elim is [
      | inl help ↦ not_both (bytes_eq id (codes "help")) rest.0 (ap (λ i. bytes_eq i (codes "help")) help)
      | inr version ↦ not_both (bytes_eq id (codes "version")) rest.1 (ap (λ i. bytes_eq i (codes "version")) version)
    ]

module _ (c : Command) (m : ArgMatches) (app : App) (is : app_of c ≡ app) (parsed : IsParsedFrom c m) where
  rules_are : map rule_of (args_of c) ≡ app.top.rules
  rules_are = ap (λ (a : App). a.top.rules) is

  count : length (args_of c) ≡ length app.top.rules
  count = sym (length-map (args_of c) rule_of) ∙ ap length rules_are

  -- a parse finds a number in its range for such an argument
  pub argument_found : (place : ℕ) (argument : NumberArgument) → HasNumberArgument app place argument → FindsInRange (found_of m) argument.id argument.least argument.most
  unfolding FindsInRange
  argument_found place argument has = go (args_of c) refl
    where
      simple : has_simple_rules (app_of c).top ≡ true
      simple = ap (λ (a : App). has_simple_rules a.top) is ∙ has.simple

      free : list_all (λ rule. rule.is_free) (app_of c).top.rules ≡ true
      free = ap (λ (a : App). list_all (λ rule. rule.is_free) a.top.rules) is ∙ has.free

      under : place < length (args_of c)
      under =
          let n = count in
          let lt = has.below in
          omega arith

      at : (j : ℕ) (d : Arg) → rule_of (slice_index_or (args_of c) j d) ≡ slice_index_or app.top.rules j (rule_of d)
      at j d = rule_at (args_of c) j d ∙ ap (λ (rules : List Rule). slice_index_or rules j (rule_of d)) rules_are

      here : (d : Arg) → rule_of (slice_index_or (args_of c) place d) ≡ number_rule argument
      here d = at place d ∙ has.at (rule_of d)

      alone : (d : Arg) (j : ℕ) (e : Arg) → j < length (args_of c)
          → bytes_eq (slice_index_or (args_of c) j e).id.now (slice_index_or (args_of c) place d).id.now ≡ true → j ≡ place
      alone d j e low same =
          let n = count in
          let mine : (slice_index_or (args_of c) place d).id.now ≡ argument.id = ap (λ (rule : Rule). rule.id) (here d) in
          let theirs : (slice_index_or (args_of c) j e).id.now ≡ (slice_index_or app.top.rules j (rule_of e)).id = ap (λ (rule : Rule). rule.id) (at j e) in
          only_place app.top.rules place argument.id j (rule_of e) has.only (omega arith) (rw (← theirs, ← mine) same)

      negates : (out-Command c).subcommand_negates_reqs ≡ false
      negates = ap (λ (a : App). a.top.subcommand_negates_reqs) is ∙ has.negates

      takes_one : (d : Arg) → IsSetOption c place d (Unsigned argument.least argument.most)
      takes_one d = set_option c place d (number_rule argument) (Unsigned argument.least argument.most) under simple (here d) refl refl refl (own_not_empty argument.id has.own)
          (own_not_auto argument.id has.own) (alone d)

      -- it has a default, or is required
      text_there : (d : Arg) (default : Option Text) → argument.default ≡ default
          → FindsText (found_of m) (slice_index_or (args_of c) place d).id.now (slice_index_or (args_of c) place d).ignore_case (Unsigned argument.least argument.most)
      text_there d (Some digits) given = default_found c m parsed (plain_command c simple free) (no_globals c simple) place d (Unsigned argument.least argument.most) (takes_one d)
          (wants_default c place d (number_rule argument) under simple (here d) (subst (λ (o : Option Text). 0 < length (option_to_list o)) (sym given) (omega arith)))
      text_there d None none = required_found c m parsed (plain_command c simple free) (no_globals c simple) place d (Unsigned argument.least argument.most) (takes_one d)
          negates (ap (λ (rule : Rule). rule.required) (here d) ∙ ap (λ (o : Option Text). not (is_some o)) none)

      states : (d : Arg) → FindsInRange (found_of m) argument.id argument.least argument.most
      states d =
          subst (λ (w : Text). FindsText (found_of m) w false (Unsigned argument.least argument.most)) (ap (λ (rule : Rule). rule.id) (here d))
          (subst (λ (b : Bool). FindsText (found_of m) (slice_index_or (args_of c) place d).id.now b (Unsigned argument.least argument.most)) (ap (λ (rule : Rule). rule.ignore_case) (here d))
          (text_there d argument.default refl))

      go : (args : List Arg) → args_of c ≡ args → FindsInRange (found_of m) argument.id argument.least argument.most
      go [] none =
          let zero : length (args_of c) ≡ 0 = ap length none in
          let lt = under in
          absurd (omega arith)
      go (d ∷ rest) some = states d

-- a text that passed a range of unsigned numbers reads as its number
unsigned_reads : (E : Type 0) (G : List ℕ → Result ℕ E → Type 0) (k least most : ℕ) (text : Text) (r : Option ℕ)
    → ReadsOne G text r → ((u : Text) (x : Result ℕ E) → G u x → ParsesUnsigned k 10 u x) → most < 2 ^ k
    → IsUnsignedIn least most text
    → (r ≡ Some (number_of_text text)) × (least ≤ number_of_text text) × (number_of_text text ≤ most)
unsigned_reads E G k least most text None read only fits passed = absurd (only text (Err read.0) read.1 (passed.0, omega arith))
unsigned_reads E G k least most text (Some v) read only fits passed = (ap (λ n. Some n) (only text (Ok v) read).1, passed.2, passed.3)

-- what a typed getter gives of an argument is the number that the parse found, in the argument's range
pub number_read : (E : Type 0) (G : List ℕ → Result ℕ E → Type 0) (least most : ℕ) (id : Text) (m : ArgMatches) (r : Option ℕ)
    → FindsInRange (found_of m) id least most
    → ((text : Text) → one_text (found_of m) id ≡ Some text → ReadsOne G text r)
    → ((u : Text) (x : Result ℕ E) → G u x → ParsesUnsigned 64 10 u x) → most < 2 ^ 64
    → (n : ℕ) × (r ≡ Some n) × FindsNumber (found_of m) id n × (least ≤ n) × (n ≤ most)
unfolding FindsInRange FindsNumber
number_read E G least most id m r (text, at, passed) reads only fits =
    let got = unsigned_reads E G 64 least most text r (reads text at) only fits passed in
    (number_of_text text, got.0, (text, at, refl), got.1, got.2)

-- a number that a parse found is in each range that it found one in
pub found_in_range : (id : Text) (m : ArgMatches) (least most n : ℕ) → FindsInRange (found_of m) id least most → FindsNumber (found_of m) id n → (least ≤ n) × (n ≤ most)
unfolding FindsInRange FindsNumber
found_in_range id m least most n (text, at, passed) (other, at_other, is) =
    let same : text ≡ other = ap (λ (o : Option Text). unwrap_or o text) (sym at ∙ at_other) in
    rw (is, ← same) (passed.2, passed.3)

-- the number that an exact parse found is the one that clap states for the words
pub number_stated : (app : App) (words : List Text) (id : Text) (m : ArgMatches) (n : ℕ)
    → IsExact app words (found_of m) → FindsNumber (found_of m) id n → States app words id n
unfolding IsExact States FindsNumber
number_stated app words id m n exact (text, at, is) =
    (text, ap (one_of id) (sym exact) ∙ (sym (one_text-rows (found_of m) id) ∙ at), is)

-- clap states at most one number
pub states_once : (app : App) (words : List Text) (id : Text) (n k : ℕ) → States app words id n → States app words id k → n ≡ k
unfolding States
states_once app words id n k (text, at, is) (other, at_other, is_other) =
    let same : text ≡ other = ap (λ (o : Option Text). unwrap_or o text) (sym at ∙ at_other) in
    is ∙ ap number_of_text same ∙ sym is_other
