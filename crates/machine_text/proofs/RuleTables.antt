-- A table of rules, as it grows.
use Rattle.std.proofs.Common.{◌≡◌, ◌≢◌, ◌<◌, ◌==◌, ℕ, true, false, cond, List, [], ◌∷◌, ◌++◌, length, slice_get, Option, Some, None, option_map, refl, sym, ◌∙◌, ap, subst, inl, inr, arith}
use Rattle.std.specs.Prelude.{find, slice_set}
use Rattle.std.specs.Option.{option_or}
use Rattle.std.proofs.lemmas.Bool.{cases_Bool, eqb-true, eq-eqb}
use Rattle.std.proofs.lemmas.List.{length-set, get_or-set_same, get_or-set_other}
use Rattle.std.proofs.lemmas.List.Folds.{find-append}
use Rattle.std.proofs.lemmas.Option.{none-some, slice_get-get_or}
use Rattle.tile_io.proofs.PassedFields.{and_both}
use Rattle.machine_text.specs.declared.rule.Rule.{Rule}
use Rattle.machine_text.specs.declared.rule.Transition.{Transition}
use Rattle.machine_text.specs.Machines.{is_for, rule_among}
use Rattle.machine_text.specs.Inner.Tables.{entry, IsTableOf}

module _ {X : Type 0} (xs : List X) (i : ℕ) (x : X) (within : i < length xs) where
  pub slice_get-set_same : slice_get (slice_set xs i x) i ≡ Some x
  slice_get-set_same =
      let size : length (slice_set xs i x) ≡ length xs = length-set xs i x in
      slice_get-get_or (slice_set xs i x) i x (omega (arith, within, size)) ∙ ap (λ y. Some y) (get_or-set_same xs i x x within)

  pub slice_get-set_other : (j : ℕ) → j < length xs → j ≢ i → slice_get (slice_set xs i x) j ≡ slice_get xs j
  slice_get-set_other j inside other =
      let size : length (slice_set xs i x) ≡ length xs = length-set xs i x in
      slice_get-get_or (slice_set xs i x) j x (omega (arith, inside, size)) ∙ ap (λ y. Some y) (get_or-set_other xs i j x x other) ∙ sym (slice_get-get_or xs j x inside)

-- one rule more
rule_push : (transitions : List Transition) (t : Transition) (state symbol : ℕ) → rule_among (transitions ++ t ∷ []) state symbol ≡ option_map (λ u. u.rule) (option_or (find (is_for state symbol) transitions) (cond (is_for state symbol t) (Some t) None))
rule_push transitions t state symbol = ap (option_map (λ u. u.rule)) (find-append (is_for state symbol) transitions (t ∷ []))

first_or : (found : Option Transition) (t : Transition) → option_map (λ u. u.rule) found ≡ None → option_map (λ u. u.rule) (option_or found (Some t)) ≡ Some t.rule
first_or None t none = refl
first_or (Some u) t none = absurd (none-some u.rule (sym none))

or_none : (found : Option Transition) → option_or found None ≡ found
or_none None = refl
or_none (Some t) = refl

pub rule_push_same : (transitions : List Transition) (t : Transition) (state symbol : ℕ) → is_for state symbol t ≡ true → rule_among transitions state symbol ≡ None → rule_among (transitions ++ t ∷ []) state symbol ≡ Some t.rule
rule_push_same transitions t state symbol is none =
    rule_push transitions t state symbol
    ∙ ap (λ b. option_map (λ u. u.rule) (option_or (find (is_for state symbol) transitions) (cond b (Some t) None))) is
    ∙ first_or (find (is_for state symbol) transitions) t none

pub rule_push_other : (transitions : List Transition) (t : Transition) (state symbol : ℕ) → is_for state symbol t ≡ false → rule_among (transitions ++ t ∷ []) state symbol ≡ rule_among transitions state symbol
rule_push_other transitions t state symbol not =
    rule_push transitions t state symbol
    ∙ ap (λ b. option_map (λ u. u.rule) (option_or (find (is_for state symbol) transitions) (cond b (Some t) None))) not
    ∙ ap (option_map (λ u. u.rule)) (or_none (find (is_for state symbol) transitions))

pub is_own : (t : Transition) (state symbol : ℕ) → t.state ≡ state → t.symbol ≡ symbol → is_for state symbol t ≡ true
is_own t state symbol one two = rw (eq-eqb t.state state one, eq-eqb t.symbol symbol two) refl

pub IsTableOf-push : (transitions : List Transition) (table : List (Option Rule)) (t : Transition) → IsTableOf transitions table → t.state < 64 → t.symbol < 64 → rule_among transitions t.state t.symbol ≡ None →
    IsTableOf (transitions ++ t ∷ []) (slice_set table (entry t.state t.symbol) (Some t.rule))
IsTableOf-push transitions table t is_table few_states few_symbols fresh =
    let place : entry t.state t.symbol < length table = (let size = is_table.size in omega (arith, size, few_states, few_symbols)) in
    record {
      size = length-set table (entry t.state t.symbol) (Some t.rule) ∙ is_table.size;
      entries = λ state symbol state_below symbol_below. elim (cases_Bool (is_for state symbol t)) [
        | inl is ↦
            let both = and_both (t.state == state) (t.symbol == symbol) is in
            let one = eqb-true t.state state both.0 in
            let two = eqb-true t.symbol symbol both.1 in
            let none : rule_among transitions state symbol ≡ None = subst (λ q. rule_among transitions q symbol ≡ None) one (subst (λ a. rule_among transitions t.state a ≡ None) two fresh) in
            let here : entry t.state t.symbol ≡ entry state symbol = ap (λ q. entry q t.symbol) one ∙ ap (λ a. entry state a) two in
            subst (λ n. slice_get (slice_set table (entry t.state t.symbol) (Some t.rule)) n ≡ Some (rule_among (transitions ++ t ∷ []) state symbol)) here
            (slice_get-set_same table (entry t.state t.symbol) (Some t.rule) place ∙ ap (λ r. Some r) (sym (rule_push_same transitions t state symbol is none)))
        | inr not ↦
            let inside : entry state symbol < length table = (let size = is_table.size in omega (arith, size, state_below, symbol_below)) in
            let other : entry state symbol ≢ entry t.state t.symbol = λ same.
            let one : t.state ≡ state = omega (arith, same, few_symbols, symbol_below) in
            let two : t.symbol ≡ symbol = omega (arith, same, one) in
            let clash : true ≡ false = sym (is_own t state symbol one two) ∙ not in
            cc clash
            in
            slice_get-set_other table (entry t.state t.symbol) (Some t.rule) place (entry state symbol) inside other
            ∙ is_table.entries state symbol state_below symbol_below ∙ ap (λ r. Some r) (sym (rule_push_other transitions t state symbol not))
      ];
    }
