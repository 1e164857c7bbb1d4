-- The steps of a machine keep its configurations, and end once.
use Rattle.std.proofs.Common.{◌≡◌, ◌<◌, ◌≤◌, ◌-◌, ℕ, zero, suc, Bool, true, false, cond, nat_lt, length, Option, Some, None, IfSome, option_map, option_and_then, refl, ◌∙◌, ap, subst, inl, inr, arith}
use Rattle.std.specs.Prelude.{find}
use Rattle.std.proofs.lemmas.List.{length-set}
use Rattle.std.proofs.lemmas.List.Elements.{All-set}
use Rattle.std.proofs.lemmas.Bool.{cases_lt, ltb-true}
use Rattle.machine_text.specs.declared.rule.Turn.{Turn}
use Rattle.machine_text.specs.declared.rule.Turn.TheVariants.{Left, Right, Stay}
use Rattle.machine_text.specs.declared.rule.Rule.{Rule}
use Rattle.machine_text.specs.declared.rule.Transition.{Transition}
use Rattle.machine_text.specs.declared.config.Head.{Head}
use Rattle.machine_text.specs.Machines.{TuringMachine, Configuration, IsMachine, IsConfigOf, IsTransition, is_for, rule_of, last_cell, moved, acted, next, after}
use Rattle.machine_text.proofs.Finding.{find_has}

-- a rule that a machine has is in range
rule_of_one : (states symbols : ℕ) (found : Option Transition) → ((t : Transition) → found ≡ Some t → IsTransition states symbols t) →
    IfSome (option_map (λ t. t.rule) found) (λ rule. rule.state < states) × IfSome (option_map (λ t. t.rule) found) (λ rule. rule.symbol < symbols)
rule_of_one states symbols None is = (tt, tt)
rule_of_one states symbols (Some t) is = ((is t refl).next_state, (is t refl).next_symbol)

pub rule_in_range : (M : TuringMachine) (state symbol : ℕ) → IsMachine M → IfSome (rule_of M state symbol) (λ rule. rule.state < length M.states) × IfSome (rule_of M state symbol) (λ rule. rule.symbol < length M.symbols)
rule_in_range M state symbol valid =
    rule_of_one (length M.states) (length M.symbols) (find (is_for state symbol) M.rules) (λ t found.
    find_has (is_for state symbol) (IsTransition (length M.states) (length M.symbols)) M.rules t valid.transitions found)

right_within : (test : Bool) (cells states cell state : ℕ) → nat_lt cell (cells - 1) ≡ test → state < states →
    IfSome {T = Head} (cond test (Some (record { cell = suc cell; state = state })) None) (λ head. (head.cell < cells) × (head.state < states))
right_within true cells states cell state is known = let below = ltb-true cell (cells - 1) is in (omega (arith, below), known)
right_within false cells states cell state is known = tt

-- a head that moved is still in range, where there is one
moved_within : (cells states : ℕ) (turn : Turn) (cell state : ℕ) → cell < cells → state < states → IfSome (moved (cells - 1) turn cell state) (λ head. (head.cell < cells) × (head.state < states))
moved_within cells states Stay cell state within known = (within, known)
moved_within cells states Right cell state within known = right_within (nat_lt cell (cells - 1)) cells states cell state refl known
moved_within cells states Left zero state within known = tt
moved_within cells states Left (suc cell) state within known = (omega (arith, within), known)

-- what a rule makes of a configuration is one of the machine
pub IsConfigOf-acted : (M : TuringMachine) (c : Configuration) (head : Head) (rule : Rule) → IsMachine M → IsConfigOf M c → c.head ≡ Some head → rule.state < length M.states → rule.symbol < length M.symbols →
    IsConfigOf M (acted (last_cell M) c head rule)
IsConfigOf-acted M c head rule valid config there state symbol =
    let Within : Option Head → Type 0 = λ h. IfSome h (λ head. (head.cell < M.cells) × (head.state < length M.states)) in
    let here : Within (Some head) = subst Within there config.head in
    record {
      cells = length-set c.symbols head.cell rule.symbol ∙ config.cells;
      symbols = All-set (λ a. a < length M.symbols) c.symbols head.cell rule.symbol symbol config.symbols;
      head = moved_within M.cells (length M.states) rule.turn head.cell rule.state here.0 state;
    }

-- a run that has stopped stays so
pub stays_stopped : (M : TuringMachine) (early late : ℕ) → early ≤ late → after M early ≡ None → after M late ≡ None
stays_stopped M early zero before none = let same : early ≡ 0 = omega (arith, before) in subst (λ n. after M n ≡ None) same none
stays_stopped M early (suc late) before none = elim (cases_lt late early) [
  | inl over ↦ let same : early ≡ suc late = omega (arith, before, over) in subst (λ n. after M n ≡ None) same none
  | inr under ↦ ap (option_and_then (next M)) (stays_stopped M early late under none)
]
