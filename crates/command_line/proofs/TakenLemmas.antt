-- Words that are numbers, and a walk over them.
use Rattle.std.proofs.Common.{◌≡◌, ◌∙◌, ◌==◌, ◌<◌, ◌≤◌, ◌^◌, ℕ, Bool, true, false, List, [], ◌∷◌, Some, None, refl, ap, arith, cond, drop}
use Rattle.std.specs.Prelude.{decimal}
use Rattle.std.specs.Str.Parse.{IsNumeral, digits_value, without_leading_plus}
use Rattle.std.proofs.lemmas.Bool.{ne_eqb}
use Rattle.std.proofs.lemmas.Fmt.{decimal_is_IsNumeral}
use Rattle.std.proofs.lemmas.Str.Parse.{digit_from_value}
use Rattle.std.specs.Str.{bytes_eq}
use Rattle.clap.specs.Words.{Rule, Shape, Text}
use Rattle.clap.specs.Lexer.{long_of, short_of}
use Rattle.clap.specs.Walk.{Held, Walk, arg_by_id, idle, nothing_held, option, option_word, walked}
use Rattle.clap.specs.Takes.{turn_passes, walk_passes}
use Rattle.clap.specs.ValueTests.{accepts}
use Rattle.clap.specs.declared.builder.value_parser.ValueParser.TheVariants.{Unsigned}
use Rattle.clap.proofs.ValueTestLemmas.{Accepts-accepts}
use Rattle.command_line.specs.Numbers.{number_of_text}

-- ---- a word that is no flag

pub record IsPlainWord (word : Text) : Type 0 where
  pub dashes : bytes_eq word (45 ∷ 45 ∷ []) ≡ false
  pub long : long_of word ≡ None
  pub short : short_of word ≡ None

plain_word : (x : ℕ) (xs : Text) → (x == 45) ≡ false → IsPlainWord (x ∷ xs)
plain_word x xs not_dash = record { dashes = rw not_dash refl; long = rw not_dash refl; short = rw not_dash refl }

-- between two words, where an option waits for a value
abbrev pub waits : Held → Text → Walk
waits held id = record { held = held; waiting = option id; position = 1; is_trailing = false; stopped = None }

-- between two words, where nothing waits
abbrev pub after : Held → Walk
after held = record { held = held; waiting = idle; position = 1; is_trailing = false; stopped = None }

-- a plain word goes to the option that waits
pub value_walked : (rules : List Rule) (held : Held) (id word : Text) → IsPlainWord word
    → walked rules [] (waits held id) word ≡ record (waits held id) {
      held = (option_word (arg_by_id rules id) id word held).0;
      waiting = (option_word (arg_by_id rules id) id word held).1;
    }
unfolding walked
value_walked rules held id word plain = rw (plain.dashes, plain.long, plain.short) refl

pub value_passes : (shape : Shape) (held : Held) (id word : Text) → IsPlainWord word → turn_passes shape [] (waits held id) word ≡ true
value_passes shape held id word plain = rw (plain.dashes, plain.long, plain.short) refl

pub none_left : (shape : Shape) (w : Walk) → walk_passes shape [] w [] ≡ true
unfolding walk_passes
none_left shape w = refl

pub pass_more : (shape : Shape) (w next : Walk) (word : Text) (rest : List Text) → turn_passes shape [] w word ≡ true → walked shape.rules [] w word ≡ next
    → walk_passes shape [] next rest ≡ true → walk_passes shape [] w (word ∷ rest) ≡ true
unfolding walk_passes
pass_more shape w next word rest turn step others = rw (turn, step) others

-- ---- the text of a number

without_plus : (digits : Text) → IsNumeral 10 digits → without_leading_plus digits ≡ digits
without_plus [] is = refl
without_plus (d ∷ ds) is =
    let plus : (d == 43) ≡ false = ne_eqb _ _ (λ e. omega (arith, digit_from_value d is.1.0)) in
    ap (λ (b : Bool). drop (cond b 1 0) (d ∷ ds)) plus

-- what clap makes of a number in decimal digits without leading zeros
pub record IsTextOf (text : Text) (n : ℕ) : Type 0 where
  pub plain : IsPlainWord text
  pub passes : (least most : ℕ) → least ≤ n → n ≤ most → accepts false (Unsigned least most) text ≡ true
  pub number : number_of_text text ≡ n

pub decimal_text : (n : ℕ) → n < 2 ^ 64 → IsTextOf (decimal n) n
decimal_text n fits = go (decimal n) (decimal_is_IsNumeral n fits)
  where
    go : (digits : Text) → IsNumeral 10 digits × (digits_value 10 digits ≡ n) → IsTextOf digits n
    go [] is = absurd (omega (arith, is.0.0))
    go (d ∷ ds) is = record {
      plain = plain_word d ds (ne_eqb _ _ (λ e. omega (arith, digit_from_value d is.0.1.0)));
      passes = λ least most above below.
          let same = without_plus (d ∷ ds) is.0 in
          Accepts-accepts false (Unsigned least most) (d ∷ ds) (rw same is.0, rw (same, is.1) fits, rw (same, is.1) above, rw (same, is.1) below);
      number = ap (digits_value 10) (without_plus (d ∷ ds) is.0) ∙ is.1;
    }

-- what is held where one argument has these values
abbrev pub one_held : Text → List Text → Held
one_held id values = record nothing_held { pending = Some (id, values) }
