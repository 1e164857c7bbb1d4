-- The table of a machine grows the rows of its run.
use Rattle.std.proofs.Common.{◌-◌, ◌≡◌, ◌≢◌, ◌⊎◌, ◌<◌, ◌≤◌, ◌==◌, cond, is_some, ℕ, zero, suc, true, false, length, Option, Some, None, refl, sym, ◌∙◌, ap, subst, inl, inr, arith, zero-le}
use Rattle.std.specs.Prelude.{slice_index}
use Rattle.std.proofs.Math.Nat.{le_refl}
use Rattle.std.proofs.lemmas.Option.{same_Some, none-some, option_and_then_some}
use Rattle.std.proofs.lemmas.Bool.{cases_lt, cases_order}
use Rattle.std.proofs.lemmas.Bool.Decides.{eqb_tells}
use Rattle.atam.specs.declared.site.Side.{Side}
use Rattle.atam.specs.declared.site.Side.TheVariants.{North, East, South, West}
use Rattle.atam.proofs.Lists.{some_or_none}
use Rattle.design.specs.RowDesigns.{RowDesign, IsHeldByOneOrFree, GrowsRowByRow, label_shown, label_offered, label_strength}
use Rattle.design.proofs.Rows.{is_less, not_less}
use Rattle.design.proofs.RowSteps.{nat_le-true, weak_none, shows-some, shows-none, from_west, east_none, free, IsHeld, empty_held}
use Rattle.machine_text.specs.declared.rule.Turn.{Turn}
use Rattle.machine_text.specs.declared.rule.Turn.TheVariants.{Left, Right, Stay}
use Rattle.machine_text.specs.declared.rule.Rule.{Rule}
use Rattle.machine_text.specs.declared.config.Head.{Head}
use Rattle.machine_text.specs.Machines.{TuringMachine, Configuration, first, action, next, after, IsMachine, IsConfigOf}
use Rattle.turing_compile.specs.declared.kind.Kind.{Kind}
use Rattle.turing_compile.specs.declared.kind.Kind.TheVariants.{First, Action, FromLeft, FromRight, RightOf, LeftOf}
use Rattle.turing_compile.specs.declared.kind.Label.TheVariants.{Acting, Joint}
use Rattle.turing_compile.specs.Tiles.{top, side}
use Rattle.turing_compile.specs.Shown.{state_in, cell_of}
use Rattle.turing_compile.specs.Compiled.{tiles_of}
use Rattle.turing_compile.specs.Inner.Members.{IsKind}
use Rattle.turing_compile.specs.Inner.Upward.{upward}
use Rattle.turing_compile.proofs.MachineFacts.{rule_bounds, last_is, step_from, symbol_below, head_within, config_after}
use Rattle.turing_compile.proofs.Sides.{first_north, is_First, weak_sides}
use Rattle.turing_compile.proofs.Configs.{left_of, right_of, kind_over, over_left, over_right, over_here, north_over}
use Rattle.turing_compile.proofs.Listed.{kind_listed}
use Rattle.turing_compile.proofs.RunRows.{row_over, row_of, start_over, start_at, row_acts, row_headless, row_ruleless, row_from, row_ends, first_there, first_from, row_gone}
use Rattle.turing_compile.proofs.ActingRows.{IsUnder, EndsAt, full, full_held, full_is}

abbrev pub machine_rows : TuringMachine → RowDesign Kind
machine_rows M = record { row = row_of M; start = start_at M; width = M.cells }

module _ (M : TuringMachine) (is_machine : IsMachine M) where
  -- the row that shows a configuration shows it upwards
  row_up : (y : ℕ) (c : Configuration) → after M y ≡ Some c → IsUnder M (row_of M y) c
  row_up zero c there i within =
      shows-some (tiles_of M) (row_of M 0) i North (First i) (first_there M i within) ∙ first_north M i ∙ ap (λ d. upward M (cell_of d i)) (same_Some (first M) c there)
  row_up (suc y) c there i within =
      option_and_then_some (next M) (after M y) c there (λ d before follows.
      let s = step_from M is_machine d c follows in
      shows-some (tiles_of M) (row_of M (suc y)) i North (kind_over d s.head s.act i)
      (row_acts M (after M y) d s.head s.act i before s.there s.by ∙ ap (λ t. cond t (Some (kind_over d s.head s.act i)) None) (nat_le-true i (M.cells - 1) within))
      ∙ north_over M d s.head s.act (config_after M is_machine y d before) i s.there s.by within
      ∙ ap (λ e. upward M (cell_of e i)) s.result)

  -- what a cell without an acting head turns up is weak
  plain_weak : (c : Configuration) (i : ℕ) → (state_in c.head i ≡ None) ⊎ ((q : ℕ) × (state_in c.head i ≡ Some q) × (top M q (slice_index c.symbols i) ≡ None)) →
      label_strength (tiles_of M) (upward M (cell_of c i)) ≤ 1
  plain_weak c i (inl away) = rw (ap (λ o. upward M (record { symbol = slice_index c.symbols i; state = o })) away) (le_refl 1)
  plain_weak c i (inr stopped) = rw (ap (λ o. upward M (record { symbol = slice_index c.symbols i; state = o })) stopped.1 ∙ stopped.2) zero-le

  under_weak : (under : ℕ → Option Kind) (c : Configuration) → IsUnder M under c → EndsAt M under → ((i : ℕ) → label_strength (tiles_of M) (upward M (cell_of c i)) ≤ 1) →
      (i : ℕ) → label_strength (tiles_of M) (label_shown (tiles_of M) under i North) ≤ 1
  under_weak under c is_under ends weak i = elim (cases_lt (M.cells - 1) i) [
    | inl past ↦ weak_none (tiles_of M) (label_shown (tiles_of M) under i North) (shows-none (tiles_of M) under i North (ends i past))
    | inr within ↦ rw (is_under i within) (weak i)
  ]

  row_held : (y : ℕ) → IsHeld (tiles_of M) (row_of M y) (row_of M (suc y)) (start_over (after M y))
  row_held y = elim (some_or_none (after M y)) [
    | inl none ↦
        empty_held (tiles_of M) (row_of M y) (row_of M (suc y)) (start_over (after M y)) (λ i. ap (λ p. row_over M p i) none)
        (λ i. weak_none (tiles_of M) (label_shown (tiles_of M) (row_of M y) i North) (shows-none (tiles_of M) (row_of M y) i North (row_gone M y i none)))
    | inr found ↦
        let c = found.0 in
        let is_under = row_up y c found.1 in
        elim (some_or_none c.head) [
          | inl none ↦
              empty_held (tiles_of M) (row_of M y) (row_of M (suc y)) (start_over (after M y)) (λ i. row_headless M (after M y) c i found.1 none)
              (under_weak (row_of M y) c is_under (row_ends M y) (λ i. plain_weak c i (inl (ap (λ g. state_in g i) none))))
          | inr head ↦ elim (some_or_none (action M c head.0)) [
            | inl none ↦
                empty_held (tiles_of M) (row_of M y) (row_of M (suc y)) (start_over (after M y)) (λ i. row_ruleless M (after M y) c head.0 i found.1 head.1 none)
                (under_weak (row_of M y) c is_under (row_ends M y) (λ i. plain_weak c i (stopped c head.0 head.1 none i)))
            | inr act ↦ acting c head.0 act.0 found.1 is_under head.1 act.1
          ]
        ]
  ]
    where
      stopped : (c : Configuration) (head : Head) → c.head ≡ Some head → action M c head ≡ None → (i : ℕ) →
          (state_in c.head i ≡ None) ⊎ ((q : ℕ) × (state_in c.head i ≡ Some q) × (top M q (slice_index c.symbols i) ≡ None))
      stopped c head there none i = elim (eqb_tells i head.cell) [
        | inr differ ↦ inl (ap (λ g. state_in g i) there ∙ ap (λ t. cond t (Some head.state) None) differ.0)
        | inl same ↦ inr (
          head.state,
          ap (λ g. state_in g i) there ∙ ap (λ t. cond t (Some head.state) None) same.0,
          ap (λ n. top M head.state (slice_index c.symbols n)) same.1 ∙ ap (λ o. cond (is_some o) (Some (Acting head.state (slice_index c.symbols head.cell))) None) none,
        )
      ]

      acting : (c : Configuration) (head : Head) (act : Rule) → after M y ≡ Some c → IsUnder M (row_of M y) c → c.head ≡ Some head → action M c head ≡ Some act →
          IsHeld (tiles_of M) (row_of M y) (row_of M (suc y)) (start_over (after M y))
      acting c head act is_c is_under there acts =
          let config = config_after M is_machine y c is_c in
          let r = full M is_machine (row_of M y) c head act config is_under (row_ends M y) there acts in
          let at = full_is M is_machine (row_of M y) c head act config is_under (row_ends M y) there acts (row_of M (suc y)) (λ i. row_acts M (after M y) c head act i is_c there acts) in
          let same : r ≡ row_of M (suc y) = λ z i. sym (at i) z in
          let start : head.cell ≡ start_over (after M y) = sym (ap start_over is_c ∙ ap (λ g. elim g [ None ↦ 0 | Some d ↦ d.cell ]) there) in
          subst (λ n. IsHeld (tiles_of M) (row_of M y) (row_of M (suc y)) n) start
          (subst (λ s. IsHeld (tiles_of M) (row_of M y) s head.cell) same (full_held M is_machine (row_of M y) c head act config is_under (row_ends M y) there acts))

  first_shows : (i : ℕ) (d : Side) → i ≤ M.cells - 1 → label_shown (tiles_of M) (row_of M 0) i d ≡ side M (First i) d
  first_shows i d within = shows-some (tiles_of M) (row_of M 0) i d (First i) (first_there M i within)

  first_east_none : (i : ℕ) → M.cells - 1 ≤ i → label_shown (tiles_of M) (row_of M 0) i East ≡ None
  first_east_none i past = elim (cases_lt (M.cells - 1) i) [
    | inl beyond ↦ shows-none (tiles_of M) (row_of M 0) i East (row_ends M 0 i beyond)
    | inr within ↦ first_shows i East within ∙ ap (λ t. cond t (Some (Joint (suc i))) None) (not_less i (M.cells - 1) past)
  ]

  first_row : (i : ℕ) → IsHeldByOneOrFree (tiles_of M) (row_of M 0 (suc i)) (label_offered (tiles_of M) (λ n. None) (row_of M 0) 0 (suc i)) West
  first_row i =
      let west = from_west (tiles_of M) (λ n. None) (row_of M 0) 0 (suc i) (omega arith) in
      elim (cases_lt (M.cells - 1) (suc i)) [
        | inl past ↦
            inr (free (tiles_of M) (λ n. None) (row_of M 0) 0 (suc i) (row_ends M 0 (suc i) past) (east_none (tiles_of M) (λ n. None) (row_of M 0) 0 (suc i) zero-le) zero-le
            (west ∙ first_east_none i (omega (arith, past))))
        | inr within ↦ inl (record {
          label = Joint (suc i);
          offered = west ∙ first_shows i East (omega (arith, within)) ∙ ap (λ t. cond t (Some (Joint (suc i))) None) (is_less i (M.cells - 1) within);
          strong = refl;
          fits = λ k wanted. ap (λ l. side M l West) (sym (first_from M (suc i) k wanted).1);
          only = λ k listed has. first_there M (suc i) within ∙ ap (λ l. Some l) (sym (is_First M k i has));
        })
      ]

  -- the tiles over a configuration are kinds of the machine, and none is of the first row
  module _ (c : Configuration) (head : Head) (act : Rule) (config : IsConfigOf M c) (acts : action M c head ≡ Some act) where
    IsLater : Kind → Type 0
    IsLater k = IsKind M k × ((n : ℕ) → k ≢ First n)

    below : (i : ℕ) → slice_index c.symbols i < length M.symbols
    below i = symbol_below M is_machine c config i

    left_kind : (turn : Turn) (i : ℕ) → IsLater (left_of c head turn act.state i)
    unfolding IsLater
    left_kind Left i = elim (suc i == head.cell) as (λ t. IsLater (cond t (FromRight act.state (slice_index c.symbols i)) (LeftOf (slice_index c.symbols i)))) [
      | true ↦ (((rule_bounds M is_machine head.state (slice_index c.symbols head.cell) act acts).next_state, below i), λ n e. cc)
      | false ↦ (below i, λ n e. cc)
    ]
    left_kind Right i = (below i, λ n e. cc)
    left_kind Stay i = (below i, λ n e. cc)

    right_kind : (turn : Turn) (i : ℕ) → IsLater (right_of c head turn act.state i)
    unfolding IsLater
    right_kind Right i = elim (i == suc head.cell) as (λ t. IsLater (cond t (FromLeft act.state (slice_index c.symbols i)) (RightOf (slice_index c.symbols i)))) [
      | true ↦ (((rule_bounds M is_machine head.state (slice_index c.symbols head.cell) act acts).next_state, below i), λ n e. cc)
      | false ↦ (below i, λ n e. cc)
    ]
    right_kind Left i = (below i, λ n e. cc)
    right_kind Stay i = (below i, λ n e. cc)

    over_kind : (i : ℕ) → IsKind M (kind_over c head act i) × ((n : ℕ) → kind_over c head act i ≢ First n)
    unfolding IsLater
    over_kind i =
        elim (cases_order i head.cell) [
          | inl same ↦
              let here : IsLater (Action head.state (slice_index c.symbols head.cell)) = (ap is_some acts, λ n e. cc) in
              subst (λ m. IsLater (kind_over c head act m)) (sym same) (subst IsLater (sym (over_here M c head act)) here)
          | inr rest ↦ elim rest [
            | inl less ↦ subst IsLater (sym (over_left M c head act i less)) (left_kind act.turn i)
            | inr more ↦ subst IsLater (sym (over_right M c head act i more)) (right_kind act.turn i)
          ]
        ]

  cell_of_head : Option Head → ℕ
  cell_of_head None = 0
  cell_of_head (Some head) = head.cell

  start_is : (c : Configuration) → start_over (Some c) ≡ cell_of_head c.head
  unfolding cell_of_head
  start_is c = refl

  start_within : (y : ℕ) → start_at M y < M.cells
  unfolding cell_of_head
  start_within zero = let last = last_is M is_machine in omega (arith, last)
  start_within (suc y) = elim (some_or_none (after M y)) [
    | inl none ↦ rw (ap start_over none) (let last = last_is M is_machine in omega (arith, last))
    | inr c ↦ elim (some_or_none c.0.head) [
      | inl none ↦
          let at : start_over (after M y) ≡ 0 = ap start_over c.1 ∙ start_is c.0 ∙ ap cell_of_head none in
          let last = last_is M is_machine in
          omega (arith, at, last)
      | inr head ↦
          let within = (head_within M is_machine c.0 (config_after M is_machine y c.0 c.1) head.0 head.1).0 in
          let at : start_over (after M y) ≡ head.0.cell = ap start_over c.1 ∙ start_is c.0 ∙ ap cell_of_head head.1 in
          let last = last_is M is_machine in
          omega (arith, at, within, last)
    ]
  ]

  row_kind : (y i : ℕ) (k : Kind) → row_of M y i ≡ Some k → IsKind M k
  row_kind zero i k tile =
      let f = first_from M i k tile in
      let within = f.0 in
      let last = last_is M is_machine in
      let here : IsKind M (First i) = omega (arith, within, last) in
      subst (IsKind M) f.1 here
  row_kind (suc y) i k tile =
      let o = row_from M (after M y) i k tile in
      subst (IsKind M) o.kind (over_kind o.config o.head o.act (config_after M is_machine y o.config o.is_config) o.acts i).0

  west_border : (y : ℕ) → label_strength (tiles_of M) (label_shown (tiles_of M) (row_of M y) 0 West) ≤ 1
  west_border zero = weak_none (tiles_of M) (label_shown (tiles_of M) (row_of M 0) 0 West) (first_shows 0 West zero-le)
  west_border (suc y) = elim (some_or_none (row_of M (suc y) 0)) [
    | inl none ↦ weak_none (tiles_of M) (label_shown (tiles_of M) (row_of M (suc y)) 0 West) (shows-none (tiles_of M) (row_of M (suc y)) 0 West none)
    | inr k ↦
        let o = row_from M (after M y) 0 k.0 k.1 in
        let other : (n : ℕ) → k.0 ≢ First n = λ n e. (over_kind o.config o.head o.act (config_after M is_machine y o.config o.is_config) o.acts 0).1 n (o.kind ∙ e) in
        rw (shows-some (tiles_of M) (row_of M (suc y)) 0 West k.0 k.1) (weak_sides M k.0 other).1
  ]

  south_border : (i : ℕ) → label_strength (tiles_of M) (label_shown (tiles_of M) (row_of M 0) i South) ≤ 1
  south_border i = elim (cases_lt (M.cells - 1) i) [
    | inl past ↦ weak_none (tiles_of M) (label_shown (tiles_of M) (row_of M 0) i South) (shows-none (tiles_of M) (row_of M 0) i South (row_ends M 0 i past))
    | inr within ↦ weak_none (tiles_of M) (label_shown (tiles_of M) (row_of M 0) i South) (first_shows i South within)
  ]

  pub rows_grow : GrowsRowByRow (tiles_of M) (machine_rows M) (First 0)
  rows_grow = record {
    seed_there = first_there M 0 zero-le;
    first_start = refl;
    starts = start_within;
    columns = λ i y k tile. elim (cases_lt (M.cells - 1) i) [
      | inl past ↦ absurd (none-some k (sym (row_ends M y i past) ∙ tile))
      | inr within ↦ let last = last_is M is_machine in omega (arith, within, last)
    ];
    kinds = λ i y k tile. kind_listed M is_machine k (row_kind y i k tile);
    first_row = first_row;
    at_start = λ y. (row_held y).at_start;
    west_of_start = λ i y less. (row_held y).west_of_start i less;
    east_of_start = λ i y more. (row_held y).east_of_start i more;
    west_border = west_border;
    south_border = south_border;
  }
