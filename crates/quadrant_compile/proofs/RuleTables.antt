-- A table of rules, as it grows.
use Rattle.std.proofs.Common.{◌≡◌, ◌≢◌, ◌<◌, ◌==◌, ℕ, true, false, cond, List, [], ◌∷◌, ◌++◌, length, slice_get, Option, Some, None, option_map, refl, sym, ◌∙◌, ap, subst, inl, inr, arith}
use Rattle.std.specs.Prelude.{find, slice_set}
use Rattle.std.specs.Option.{option_or}
use Rattle.std.proofs.lemmas.Bool.{cases_Bool, eqb-true, eq-eqb}
use Rattle.std.proofs.lemmas.List.{length-set, get_or-set_same, get_or-set_other}
use Rattle.std.proofs.lemmas.List.Folds.{find-append}
use Rattle.std.proofs.lemmas.Option.{none-some, slice_get-get_or}
use Rattle.tile_io.proofs.PassedFields.{and_both}
use Rattle.quadrant_compile.specs.declared.rule.Answer.{Answer}
use Rattle.quadrant_compile.specs.declared.rule.Rule.{Rule}
use Rattle.quadrant_compile.specs.Quadrants.{is_for, answer_among}
use Rattle.quadrant_compile.specs.Inner.Tables.{entry, IsTableOf}

module _ {X : Type 0} (xs : List X) (i : ℕ) (x : X) (within : i < length xs) where
  slice_get-set_same : slice_get (slice_set xs i x) i ≡ Some x
  slice_get-set_same =
      let size : length (slice_set xs i x) ≡ length xs = length-set xs i x in
      slice_get-get_or (slice_set xs i x) i x (omega (arith, within, size)) ∙ ap (λ y. Some y) (get_or-set_same xs i x x within)

  slice_get-set_other : (j : ℕ) → j < length xs → j ≢ i → slice_get (slice_set xs i x) j ≡ slice_get xs j
  slice_get-set_other j inside other =
      let size : length (slice_set xs i x) ≡ length xs = length-set xs i x in
      slice_get-get_or (slice_set xs i x) j x (omega (arith, inside, size)) ∙ ap (λ y. Some y) (get_or-set_other xs i j x x other) ∙ sym (slice_get-get_or xs j x inside)

-- one rule more
rule_push : (rules : List Rule) (t : Rule) (west south : ℕ) → answer_among (rules ++ t ∷ []) west south ≡ option_map (λ u. u.answer) (option_or (find (is_for west south) rules) (cond (is_for west south t) (Some t) None))
rule_push rules t west south = ap (option_map (λ u. u.answer)) (find-append (is_for west south) rules (t ∷ []))

first_or : (found : Option Rule) (t : Rule) → option_map (λ u. u.answer) found ≡ None → option_map (λ u. u.answer) (option_or found (Some t)) ≡ Some t.answer
first_or None t none = refl
first_or (Some u) t none = absurd (none-some u.answer (sym none))

or_none : (found : Option Rule) → option_or found None ≡ found
or_none None = refl
or_none (Some t) = refl

pub rule_push_same : (rules : List Rule) (t : Rule) (west south : ℕ) → is_for west south t ≡ true → answer_among rules west south ≡ None → answer_among (rules ++ t ∷ []) west south ≡ Some t.answer
rule_push_same rules t west south is none =
    rule_push rules t west south
    ∙ ap (λ b. option_map (λ u. u.answer) (option_or (find (is_for west south) rules) (cond b (Some t) None))) is
    ∙ first_or (find (is_for west south) rules) t none

pub rule_push_other : (rules : List Rule) (t : Rule) (west south : ℕ) → is_for west south t ≡ false → answer_among (rules ++ t ∷ []) west south ≡ answer_among rules west south
rule_push_other rules t west south not =
    rule_push rules t west south
    ∙ ap (λ b. option_map (λ u. u.answer) (option_or (find (is_for west south) rules) (cond b (Some t) None))) not
    ∙ ap (option_map (λ u. u.answer)) (or_none (find (is_for west south) rules))

pub is_own : (t : Rule) (west south : ℕ) → t.west ≡ west → t.south ≡ south → is_for west south t ≡ true
is_own t west south one two = rw (eq-eqb t.west west one, eq-eqb t.south south two) refl

pub IsTableOf-push : (rules : List Rule) (table : List (Option Answer)) (t : Rule) → IsTableOf rules table → t.west < 64 → t.south < 64 → answer_among rules t.west t.south ≡ None →
    IsTableOf (rules ++ t ∷ []) (slice_set table (entry t.west t.south) (Some t.answer))
IsTableOf-push rules table t is_table few_west few_south fresh =
    let place : entry t.west t.south < length table = (let size = is_table.size in omega (arith, size, few_west, few_south)) in
    record {
      size = length-set table (entry t.west t.south) (Some t.answer) ∙ is_table.size;
      entries = λ west south west_below south_below. elim (cases_Bool (is_for west south t)) [
        | inl is ↦
            let both = and_both (t.west == west) (t.south == south) is in
            let one = eqb-true t.west west both.0 in
            let two = eqb-true t.south south both.1 in
            let none : answer_among rules west south ≡ None = subst (λ q. answer_among rules q south ≡ None) one (subst (λ a. answer_among rules t.west a ≡ None) two fresh) in
            let here : entry t.west t.south ≡ entry west south = ap (λ q. entry q t.south) one ∙ ap (λ a. entry west a) two in
            subst (λ n. slice_get (slice_set table (entry t.west t.south) (Some t.answer)) n ≡ Some (answer_among (rules ++ t ∷ []) west south)) here
            (slice_get-set_same table (entry t.west t.south) (Some t.answer) place ∙ ap (λ r. Some r) (sym (rule_push_same rules t west south is none)))
        | inr not ↦
            let inside : entry west south < length table = (let size = is_table.size in omega (arith, size, west_below, south_below)) in
            let other : entry west south ≢ entry t.west t.south = λ same.
            let one : t.west ≡ west = omega (arith, same, few_south, south_below) in
            let two : t.south ≡ south = omega (arith, same, one) in
            let clash : true ≡ false = sym (is_own t west south one two) ∙ not in
            cc clash
            in
            slice_get-set_other table (entry t.west t.south) (Some t.answer) place (entry west south) inside other
            ∙ is_table.entries west south west_below south_below ∙ ap (λ r. Some r) (sym (rule_push_other rules t west south not))
      ];
    }
