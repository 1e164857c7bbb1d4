-- What a machine's rules and configurations keep to.
use Rattle.std.proofs.Common.{◌≡◌, ◌<◌, ◌≤◌, ◌-◌, is_some, ℕ, zero, suc, true, List, [], ◌∷◌, ◌++◌, length, replicate, get_or, Option, Some, IfSome, option_and_then, option_map, refl, sym, ◌∙◌, ap, subst, inl, inr, arith, length-append}
use Rattle.std.specs.Prelude.{slice_index, find}
use Rattle.std.proofs.lemmas.List.{length-replicate}
use Rattle.std.proofs.lemmas.List.Elements.{All-append, All-replicate, All-get_or}
use Rattle.std.proofs.lemmas.Option.{same_Some, none-some, option_and_then_some}
use Rattle.std.proofs.lemmas.Bool.{cases_lt}
use Rattle.std.proofs.lemmas.Bool.Decides.{nat_tests}
use Rattle.atam.proofs.Lists.{some_or_none}
use Rattle.machine_text.specs.declared.rule.Rule.{Rule}
use Rattle.machine_text.specs.declared.rule.Transition.{Transition}
use Rattle.machine_text.specs.declared.config.Head.{Head}
use Rattle.machine_text.proofs.Finding.{some_is, find_has, find_passes}
use Rattle.machine_text.proofs.Steps.{IsConfigOf-acted}
use Rattle.machine_text.specs.Machines.{TuringMachine, Configuration, is_for, rule_among, first, acted, action, next, after, IsTransition, IsMachine, IsConfigOf}

-- a transition that is for a state and a symbol has them
both_same : (s a : ℕ) (t : Transition) → is_for s a t ≡ true → (t.state ≡ s) × (t.symbol ≡ a)
both_same s a t passes = (grind (arith, nat_tests), grind (arith, nat_tests))

-- the states and symbols of a rule and of its pair
pub record IsRuleOf (M : TuringMachine) (q a : ℕ) (rule : Rule) : Type 0 where
  pub state : q < length M.states
  pub symbol : a < length M.symbols
  pub next_state : rule.state < length M.states
  pub next_symbol : rule.symbol < length M.symbols

pub head_in_cells : (M : TuringMachine) (c : Configuration) → IsConfigOf M c → (head : Head) → c.head ≡ Some head → head.cell < length c.symbols
head_in_cells M c config head there =
    let h = subst (λ (o : Option Head). IfSome o (λ g. (g.cell < M.cells) × (g.state < length M.states))) there config.head in
    let less = h.0 in
    let long = config.cells in
    omega (arith, less, long)

-- the first configuration has the tape, and blanks behind it
blank_behind : (xs : List ℕ) (n i : ℕ) → get_or (xs ++ replicate n 0) i 0 ≡ get_or xs i 0
blank_behind [] zero i = refl
blank_behind [] (suc n) zero = refl
blank_behind [] (suc n) (suc i) = blank_behind [] n i
blank_behind (x ∷ xs) n zero = refl
blank_behind (x ∷ xs) n (suc i) = blank_behind xs n i

pub first_symbol : (M : TuringMachine) (i : ℕ) → slice_index (first M).symbols i ≡ get_or M.tape i 0
first_symbol M i = blank_behind M.tape (M.cells - length M.tape) i

module _ (M : TuringMachine) (is_machine : IsMachine M) where
  pub rule_bounds : (q a : ℕ) (rule : Rule) → rule_among M.rules q a ≡ Some rule → IsRuleOf M q a rule
  rule_bounds q a rule there = elim (some_or_none (find (is_for q a) M.rules)) [
    | inl none ↦ absurd (none-some rule (sym (ap (option_map (λ (t : Transition). t.rule)) none) ∙ there))
    | inr t ↦
        let is = find_has (is_for q a) (IsTransition (length M.states) (length M.symbols)) M.rules t.0 is_machine.transitions t.1 in
        let pair = both_same q a t.0 (find_passes (is_for q a) M.rules t.0 t.1) in
        let same : t.0.rule ≡ rule = same_Some t.0.rule rule (sym (ap (option_map (λ (t : Transition). t.rule)) t.1) ∙ there) in
        record {
          state = subst (λ n. n < length M.states) pair.0 is.state;
          symbol = subst (λ n. n < length M.symbols) pair.1 is.symbol;
          next_state = subst (λ (r : Rule). r.state < length M.states) same is.next_state;
          next_symbol = subst (λ (r : Rule). r.symbol < length M.symbols) same is.next_symbol;
        }
  ]

  pub pair_bounds : (q a : ℕ) → is_some (rule_among M.rules q a) ≡ true → (q < length M.states) × (a < length M.symbols)
  pair_bounds q a ruled =
      let rule = some_is (rule_among M.rules q a) ruled in
      let bounds = rule_bounds q a rule.0 rule.1 in
      (bounds.state, bounds.symbol)

  pub last_is : suc (M.cells - 1) ≡ M.cells
  last_is = let some = is_machine.cells.0 in omega (arith, some)

  -- the next configuration comes by an action of the head
  pub record Step (c d : Configuration) : Type 0 where
    pub head : Head
    pub act : Rule
    pub there : c.head ≡ Some head
    pub by : action M c head ≡ Some act
    pub result : acted (M.cells - 1) c head act ≡ d

  pub step_from : (c d : Configuration) → next M c ≡ Some d → Step c d
  step_from c d follows = elim (some_or_none c.head) [
    | inl none ↦ absurd (none-some d (sym (ap (option_and_then (λ head. option_map (λ act. acted (M.cells - 1) c head act) (action M c head))) none) ∙ follows))
    | inr head ↦
        let now : option_map (λ act. acted (M.cells - 1) c head.0 act) (action M c head.0) ≡ Some d =
        sym (ap (option_and_then (λ g. option_map (λ act. acted (M.cells - 1) c g act) (action M c g))) head.1) ∙ follows
        in
        elim (some_or_none (action M c head.0)) [
          | inl none ↦ absurd (none-some d (sym (ap (option_map (λ act. acted (M.cells - 1) c head.0 act)) none) ∙ now))
          | inr act ↦ record {
            head = head.0;
            act = act.0;
            there = head.1;
            by = act.1;
            result = same_Some (acted (M.cells - 1) c head.0 act.0) d (sym (ap (option_map (λ a. acted (M.cells - 1) c head.0 a)) act.1) ∙ now);
          }
        ]
  ]

  -- a configuration with facts that are used of it
  pub symbol_below : (c : Configuration) → IsConfigOf M c → (i : ℕ) → slice_index c.symbols i < length M.symbols
  symbol_below c config i = elim (cases_lt i (length c.symbols)) [
    | inl less ↦ All-get_or (λ a. a < length M.symbols) c.symbols i 0 less config.symbols
    | inr past ↦ let some = is_machine.symbols.count.0 in rw (past_end c.symbols i past) (omega (arith, some))
  ]
    where
      past_end : (xs : List ℕ) (i : ℕ) → length xs ≤ i → get_or xs i 0 ≡ 0
      past_end [] i past = refl
      past_end (x ∷ xs) zero past = let never : ⊥ = omega (arith, past) in absurd never
      past_end (x ∷ xs) (suc i) past = past_end xs i (omega (arith, past))

  pub head_within : (c : Configuration) → IsConfigOf M c → (head : Head) → c.head ≡ Some head → (head.cell ≤ M.cells - 1) × (head.state < length M.states)
  head_within c config head there =
      let h = subst (λ (o : Option Head). IfSome o (λ g. (g.cell < M.cells) × (g.state < length M.states))) there config.head in
      let less = h.0 in
      (omega (arith, less), h.1)

  pub first_config : IsConfigOf M (first M)
  first_config =
      let some = is_machine.symbols.count.0 in
      let states = is_machine.states.count.0 in
      let room = is_machine.tape_length in
      let long = length-append M.tape (replicate (M.cells - length M.tape) 0) in
      let blanks = length-replicate {A = ℕ} (M.cells - length M.tape) 0 in
      record {
        cells = omega (arith, room, long, blanks);
        symbols = All-append (λ a. a < length M.symbols) M.tape (replicate (M.cells - length M.tape) 0) is_machine.tape_symbols
            (All-replicate (λ a. a < length M.symbols) (M.cells - length M.tape) 0 some);
        head = (is_machine.head_cell, states);
      }

  -- each configuration of the run is one of the machine
  pub config_after : (y : ℕ) (c : Configuration) → after M y ≡ Some c → IsConfigOf M c
  config_after zero c there = subst (IsConfigOf M) (same_Some (first M) c there) first_config
  config_after (suc y) c there =
      option_and_then_some (next M) (after M y) c there (λ d before follows.
      let s = step_from d c follows in
      let bounds = rule_bounds s.head.state (slice_index d.symbols s.head.cell) s.act s.by in
      subst (IsConfigOf M) s.result (IsConfigOf-acted M d s.head s.act is_machine (config_after y d before) s.there bounds.next_state bounds.next_symbol))
