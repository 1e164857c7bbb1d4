-- The rows of a machine's tiles: over each configuration the row that shows the next one.
use Rattle.std.proofs.Common.{◌-◌, ◌≡◌, ◌<◌, ◌≤◌, nat_le, cond, ℕ, zero, suc, Option, Some, None, option_and_then, option_map, refl, sym, ◌∙◌, ap, inl, inr, arith}
use Rattle.std.proofs.lemmas.Option.{same_Some, none-some, option_and_then_some}
use Rattle.std.proofs.lemmas.Bool.{cases_lt}
use Rattle.atam.proofs.Lists.{some_or_none}
use Rattle.design.proofs.RowSteps.{nat_le-true, nat_le-false}
use Rattle.machine_text.specs.declared.rule.Rule.{Rule}
use Rattle.machine_text.specs.declared.config.Head.{Head}
use Rattle.machine_text.specs.Machines.{TuringMachine, Configuration, first, acted, action, next, after, IsMachine}
use Rattle.turing_compile.specs.declared.kind.Kind.{Kind}
use Rattle.turing_compile.specs.declared.kind.Kind.TheVariants.{First}
use Rattle.turing_compile.specs.Shown.{cell_of, shown}
use Rattle.turing_compile.proofs.MachineFacts.{step_from, config_after}
use Rattle.turing_compile.proofs.Configs.{kind_over, shown_over}

-- the row over a configuration; there is none where the machine has stopped
abbrev pub row_over : TuringMachine → Option Configuration → ℕ → Option Kind
row_over M c i = option_and_then (λ d. option_and_then (λ head. option_and_then (λ act. cond (nat_le i (M.cells - 1)) (Some (kind_over d head act i)) None) (action M d head)) d.head) c

-- what is wanted in column i of row y
abbrev pub row_of : TuringMachine → ℕ → ℕ → Option Kind
row_of M zero i = cond (nat_le i (M.cells - 1)) (Some (First i)) None
row_of M (suc y) i = row_over M (after M y) i

-- the row over a configuration starts over the head
abbrev pub start_over : Option Configuration → ℕ
start_over None = 0
start_over (Some c) = elim (c.head) [ None ↦ 0 | Some head ↦ head.cell ]

abbrev pub start_at : TuringMachine → ℕ → ℕ
start_at M zero = 0
start_at M (suc y) = start_over (after M y)

module _ (M : TuringMachine) where
  -- where the machine goes on there is a row, and else there is none
  pub row_acts : (o : Option Configuration) (c : Configuration) (head : Head) (act : Rule) (i : ℕ) → o ≡ Some c → c.head ≡ Some head → action M c head ≡ Some act →
      row_over M o i ≡ cond (nat_le i (M.cells - 1)) (Some (kind_over c head act i)) None
  row_acts o c head act i is_c there acts =
      ap (λ p. row_over M p i) is_c
      ∙ ap (option_and_then (λ g. option_and_then (λ a. cond (nat_le i (M.cells - 1)) (Some (kind_over c g a i)) None) (action M c g))) there
      ∙ ap (option_and_then (λ a. cond (nat_le i (M.cells - 1)) (Some (kind_over c head a i)) None)) acts

  pub row_headless : (o : Option Configuration) (c : Configuration) (i : ℕ) → o ≡ Some c → c.head ≡ None → row_over M o i ≡ None
  row_headless o c i is_c none =
      ap (λ p. row_over M p i) is_c ∙ ap (option_and_then (λ g. option_and_then (λ a. cond (nat_le i (M.cells - 1)) (Some (kind_over c g a i)) None) (action M c g))) none

  pub row_ruleless : (o : Option Configuration) (c : Configuration) (head : Head) (i : ℕ) → o ≡ Some c → c.head ≡ Some head → action M c head ≡ None → row_over M o i ≡ None
  row_ruleless o c head i is_c there none =
      ap (λ p. row_over M p i) is_c
      ∙ ap (option_and_then (λ g. option_and_then (λ a. cond (nat_le i (M.cells - 1)) (Some (kind_over c g a i)) None) (action M c g))) there
      ∙ ap (option_and_then (λ a. cond (nat_le i (M.cells - 1)) (Some (kind_over c head a i)) None)) none

  -- a tile of a row, and what it comes from
  pub record IsOver (o : Option Configuration) (i : ℕ) (k : Kind) : Type 0 where
    pub config : Configuration
    pub head : Head
    pub act : Rule
    pub is_config : o ≡ Some config
    pub there : config.head ≡ Some head
    pub acts : action M config head ≡ Some act
    pub within : i ≤ M.cells - 1
    pub kind : kind_over config head act i ≡ k

  pub row_from : (o : Option Configuration) (i : ℕ) (k : Kind) → row_over M o i ≡ Some k → IsOver o i k
  row_from o i k tile = elim (some_or_none o) [
    | inl none ↦ absurd (none-some k (sym (ap (λ p. row_over M p i) none) ∙ tile))
    | inr c ↦ elim (some_or_none c.0.head) [
      | inl none ↦ absurd (none-some k (sym (row_headless o c.0 i c.1 none) ∙ tile))
      | inr head ↦ elim (some_or_none (action M c.0 head.0)) [
        | inl none ↦ absurd (none-some k (sym (row_ruleless o c.0 head.0 i c.1 head.1 none) ∙ tile))
        | inr act ↦
            let now = sym (row_acts o c.0 head.0 act.0 i c.1 head.1 act.1) ∙ tile in
            elim (cases_lt (M.cells - 1) i) [
              | inl past ↦ absurd (none-some k (sym (ap (λ t. cond t (Some (kind_over c.0 head.0 act.0 i)) None) (nat_le-false i (M.cells - 1) past)) ∙ now))
              | inr within ↦ record {
                config = c.0;
                head = head.0;
                act = act.0;
                is_config = c.1;
                there = head.1;
                acts = act.1;
                within = within;
                kind = same_Some (kind_over c.0 head.0 act.0 i) k (sym (ap (λ t. cond t (Some (kind_over c.0 head.0 act.0 i)) None) (nat_le-true i (M.cells - 1) within)) ∙ now);
              }
            ]
      ]
    ]
  ]

  -- no row has a tile past the last cell
  pub row_ends : (y i : ℕ) → M.cells - 1 < i → row_of M y i ≡ None
  row_ends zero i past = rw (nat_le-false i (M.cells - 1) past) refl
  row_ends (suc y) i past = elim (some_or_none (row_over M (after M y) i)) [
    | inl none ↦ none
    | inr k ↦ let within = (row_from (after M y) i k.0 k.1).within in let never : ⊥ = omega (arith, past, within) in absurd never
  ]

  pub first_there : (i : ℕ) → i ≤ M.cells - 1 → row_of M 0 i ≡ Some (First i)
  first_there i within = rw (nat_le-true i (M.cells - 1) within) refl

  pub first_from : (i : ℕ) (k : Kind) → row_of M 0 i ≡ Some k → (i ≤ M.cells - 1) × (First i ≡ k)
  first_from i k tile = elim (cases_lt (M.cells - 1) i) [
    | inl past ↦ absurd (none-some k (sym (row_ends 0 i past) ∙ tile))
    | inr within ↦ (within, same_Some (First i) k (sym (first_there i within) ∙ tile))
  ]

  next_none : (c : Configuration) → next M c ≡ None → (i : ℕ) (o : Option Configuration) → o ≡ Some c → row_over M o i ≡ None
  next_none c stops i o is_c = elim (some_or_none c.head) [
    | inl none ↦ row_headless o c i is_c none
    | inr head ↦ elim (some_or_none (action M c head.0)) [
      | inl none ↦ row_ruleless o c head.0 i is_c head.1 none
      | inr act ↦
          let goes : next M c ≡ Some (acted (M.cells - 1) c head.0 act.0) =
          ap (option_and_then (λ g. option_map (λ a. acted (M.cells - 1) c g a) (action M c g))) head.1 ∙ ap (option_map (λ a. acted (M.cells - 1) c head.0 a)) act.1
          in
          absurd (none-some (acted (M.cells - 1) c head.0 act.0) (sym stops ∙ goes))
    ]
  ]

  -- a row is empty where there is no configuration
  pub row_gone : (y i : ℕ) → after M y ≡ None → row_of M y i ≡ None
  row_gone zero i gone = absurd (none-some (first M) (sym gone))
  row_gone (suc y) i gone = elim (some_or_none (after M y)) [
    | inl none ↦ ap (λ p. row_over M p i) none
    | inr c ↦ next_none c.0 (sym (ap (option_and_then (next M)) c.1) ∙ gone) i (after M y) c.1
  ]

  module _ (is_machine : IsMachine M) where
    -- a tile shows its cell of the run's configuration
    pub row_shown : (i y : ℕ) (c : Configuration) (k : Kind) → after M y ≡ Some c → row_of M y i ≡ Some k → shown M k ≡ Some (cell_of c i)
    row_shown i zero c k there tile = ap (shown M) (sym (first_from i k tile).1) ∙ ap (λ d. Some (cell_of d i)) (same_Some (first M) c there)
    row_shown i (suc y) c k there tile =
        let o = row_from (after M y) i k tile in
        let goes : next M o.config ≡ Some (acted (M.cells - 1) o.config o.head o.act) =
        ap (option_and_then (λ g. option_map (λ a. acted (M.cells - 1) o.config g a) (action M o.config g))) o.there ∙ ap (option_map (λ a. acted (M.cells - 1) o.config o.head a)) o.acts
        in
        let one : acted (M.cells - 1) o.config o.head o.act ≡ c = same_Some (acted (M.cells - 1) o.config o.head o.act) c (sym (ap (option_and_then (next M)) o.is_config ∙ goes) ∙ there) in
        ap (shown M) (sym o.kind)
        ∙ shown_over M o.config o.head o.act (config_after M is_machine y o.config o.is_config) i o.there o.acts o.within
        ∙ ap (λ d. Some (cell_of d i)) one

    -- what a tile of a row shows
    pub record IsShown (i y : ℕ) (k : Kind) : Type 0 where
      pub config : Configuration
      pub there : after M y ≡ Some config
      pub within : i ≤ M.cells - 1
      pub shows_cell : shown M k ≡ Some (cell_of config i)

    pub what_is_shown : (i y : ℕ) (k : Kind) → row_of M y i ≡ Some k → IsShown i y k
    what_is_shown i y k tile = elim (some_or_none (after M y)) [
      | inl none ↦ absurd (none-some k (sym (row_gone y i none) ∙ tile))
      | inr c ↦ elim (cases_lt (M.cells - 1) i) [
        | inl past ↦ absurd (none-some k (sym (row_ends y i past) ∙ tile))
        | inr within ↦ record { config = c.0; there = c.1; within = within; shows_cell = row_shown i y c.0 k c.1 tile }
      ]
    ]

    -- a row is complete where its configuration is there
    pub record HasTile (y i : ℕ) (c : Configuration) : Type 0 where
      pub kind : Kind
      pub there : row_of M y i ≡ Some kind
      pub shows : shown M kind ≡ Some (cell_of c i)

    pub row_complete : (y i : ℕ) (c : Configuration) → after M y ≡ Some c → i ≤ M.cells - 1 → HasTile y i c
    row_complete y i c there within = elim (some_or_none (row_of M y i)) [
      | inr k ↦ record { kind = k.0; there = k.1; shows = row_shown i y c k.0 there (k.1) }
      | inl none ↦ absurd (missing y i c there within none)
    ]
      where
        missing : (y i : ℕ) (c : Configuration) → after M y ≡ Some c → i ≤ M.cells - 1 → row_of M y i ≡ None → ⊥
        missing zero i c there within none = none-some (First i) (sym none ∙ first_there i within)
        missing (suc y) i c there within none =
            option_and_then_some (next M) (after M y) c there (λ d before follows.
            let s = step_from M is_machine d c follows in
            let tile = row_acts (after M y) d s.head s.act i before s.there s.by ∙ ap (λ t. cond t (Some (kind_over d s.head s.act i)) None) (nat_le-true i (M.cells - 1) within) in
            none-some (kind_over d s.head s.act i) (sym none ∙ tile))
