-- What a command without arguments takes.
use Rattle.std.proofs.Common.{◌≡◌, ◌⊎◌, ◌∙◌, ap, Bool, true, false, ℕ, List, [], ◌∷◌, sym, subst, Option, Some, None, refl, inl, inr, codes}
use Rattle.std.specs.Prelude.{slice_get}
use Rattle.std.specs.Str.{bytes_eq, chars}
use Rattle.std.proofs.lemmas.Slice.Eq.{bytes_eq-Decides}
use Rattle.clap.specs.Words.{Shape, Text, built, fault_of}
use Rattle.clap.specs.Faults.{flags_fault, turn_fault, walk_fault}
use Rattle.clap.specs.Kinds.{Kinds, or_else}
use Rattle.clap.specs.Lexer.{long_of, short_of}
use Rattle.clap.specs.Walk.{Walk, bundle_met, nothing_held, walk_from, walked}
use Rattle.clap.proofs.OnLiterals.{clap_on_literals}
use Rattle.clap.specs.declared.error.kind.ErrorKind.TheVariants.{UnknownArgument}
use Rattle.command_line.specs.Commands.{plain_app}

abbrev top : Text → Shape
top name = (built (plain_app name)).top

-- the first of two lists of faults has none where neither has
first_none : (first next : Kinds) → or_else first next ≡ [] → first ≡ []
first_none [] next none = refl
first_none (k ∷ ks) next none = none

next_none : (first next : Kinds) → or_else first next ≡ [] → next ≡ []
next_none [] next none = none
next_none (k ∷ ks) next none = cc

-- a word that is not `--` is a fault
module _ (name word : Text) (other : bytes_eq word (45 ∷ 45 ∷ []) ≡ false) where
  abbrev turn : Kinds
  turn = turn_fault (top name) [] (walk_from nothing_held) word

  no_flag : long_of word ≡ None → short_of word ≡ None → turn ≡ UnknownArgument ∷ []
  no_flag long short = rw (other, long, short) refl

  long_flag : (p : Text × Option Text) → long_of word ≡ Some p → turn ≡ UnknownArgument ∷ []
  long_flag p long = rw (other, long) refl

  short_flags : (flags : Text) → long_of word ≡ None → short_of word ≡ Some flags → turn ≡ UnknownArgument ∷ []
  unfolding flags_fault bundle_met
  short_flags [] long short = rw (other, long, short) refl
  short_flags (x ∷ xs) long short = go (slice_get (chars (x ∷ xs)) 0) refl
    where
      go : (first : Option ℕ) → slice_get (chars (x ∷ xs)) 0 ≡ first → turn ≡ UnknownArgument ∷ []
      go None is = rw (other, long, short, is) refl
      go (Some y) is = rw (other, long, short, is) refl

  stray : turn ≡ UnknownArgument ∷ []
  stray = by_long (long_of word) refl (short_of word) refl
    where
      by_long : (l : Option (Text × Option Text)) → long_of word ≡ l → (s : Option Text) → short_of word ≡ s → turn ≡ UnknownArgument ∷ []
      by_long (Some p) long s short = long_flag p long
      by_long None long (Some flags) short = short_flags flags long short
      by_long None long None short = no_flag long short

-- where the words after `--` go
abbrev trailing : Walk
trailing = record (walk_from nothing_held) { is_trailing = true }

dashes_walked : walked [] [] (walk_from nothing_held) (codes "--") ≡ trailing
unfolding clap_on_literals
dashes_walked = refl

none_behind : (name word : Text) (rest : List Text) → walk_fault (top name) [] trailing (word ∷ rest) ≡ [] → ⊥
unfolding walk_fault
none_behind name word rest none = cc

words_left : (name : Text) (words : List Text) → walk_fault (top name) [] (walk_from nothing_held) words ≡ [] → (words ≡ []) ⊎ (words ≡ codes "--" ∷ [])
unfolding walk_fault
words_left name [] none = inl refl
words_left name (word ∷ rest) none = go (bytes_eq word (45 ∷ 45 ∷ [])) refl rest none
  where
    go : (b : Bool) → bytes_eq word (45 ∷ 45 ∷ []) ≡ b → (rest : List Text) → walk_fault (top name) [] (walk_from nothing_held) (word ∷ rest) ≡ []
        → (word ∷ rest ≡ []) ⊎ (word ∷ rest ≡ codes "--" ∷ [])
    go false other rest none =
        let fault : UnknownArgument ∷ [] ≡ [] = sym (stray name word other) ∙ first_none _ _ none in
        cc
    go true is [] none = inr (ap (λ w. w ∷ []) ((bytes_eq-Decides word (45 ∷ 45 ∷ [])).0 is))
    go true is (next ∷ more) none =
        let dashes : word ≡ codes "--" = (bytes_eq-Decides word (45 ∷ 45 ∷ [])).0 is in
        let left = next_none (turn_fault (top name) [] (walk_from nothing_held) word) _ none in
        absurd (none_behind name next more (subst (λ (w : Walk). walk_fault (top name) [] w (next ∷ more) ≡ []) (ap (walked [] [] (walk_from nothing_held)) dashes ∙ dashes_walked) left))

pub further_words : (name : Text) (rest : List Text) → fault_of (plain_app name) (name ∷ rest) ≡ [] → (rest ≡ []) ⊎ (rest ≡ codes "--" ∷ [])
further_words name rest none = words_left name rest (first_none _ _ none)

pub further_words_taken : (name : Text) (rest : List Text) → (rest ≡ []) ⊎ (rest ≡ codes "--" ∷ []) → fault_of (plain_app name) (name ∷ rest) ≡ []
unfolding clap_on_literals
further_words_taken name rest (inl is) = rw is refl
further_words_taken name rest (inr is) = rw is refl
