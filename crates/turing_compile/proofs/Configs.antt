-- What the row over a configuration shows: the next one.
use Rattle.std.proofs.Common.{◌-◌, ◌≡◌, ◌≢◌, ◌<◌, ◌≤◌, ◌==◌, nat_lt, cond, ℕ, zero, suc, true, false, List, length, slice_index, slice_set, Option, Some, None, option_and_then, option_map, refl, sym, ◌∙◌, ap, subst, inl, inr, arith}
use Rattle.std.proofs.Math.Nat.{le_refl}
use Rattle.std.proofs.lemmas.List.{get_or-set_same, get_or-set_other}
use Rattle.std.proofs.lemmas.Option.{same_Some, none-some}
use Rattle.std.proofs.lemmas.Bool.{cases_order}
use Rattle.std.proofs.lemmas.Bool.Decides.{eqb_tells}
use Rattle.atam.specs.declared.site.Side.{Side}
use Rattle.atam.specs.declared.site.Side.TheVariants.{North}
use Rattle.atam.proofs.Lists.{some_or_none}
use Rattle.design.proofs.Rows.{is_less, not_less}
use Rattle.machine_text.specs.declared.rule.Turn.{Turn}
use Rattle.machine_text.specs.declared.rule.Turn.TheVariants.{Left, Right, Stay}
use Rattle.machine_text.specs.declared.rule.Rule.{Rule}
use Rattle.machine_text.specs.declared.config.Head.{Head}
use Rattle.machine_text.specs.Machines.{TuringMachine, Configuration, rule_among, first, moved, acted, action, IsConfigOf}
use Rattle.turing_compile.specs.declared.kind.Kind.{Kind}
use Rattle.turing_compile.specs.declared.kind.Kind.TheVariants.{First, Action, FromLeft, FromRight, RightOf, LeftOf}
use Rattle.turing_compile.specs.declared.kind.Shown.{Shown}
use Rattle.turing_compile.specs.Tiles.{action_side, side}
use Rattle.turing_compile.specs.Shown.{state_in, cell_of, plain, headed, action_shown, shown}
use Rattle.turing_compile.specs.Inner.Upward.{upward}
use Rattle.turing_compile.proofs.MachineFacts.{head_in_cells}
use Rattle.turing_compile.proofs.Sides.{eqb_same, eqb_other, first_north}

-- the tile over a cell to the left of the head, and to the right of it, where the head goes to state q
abbrev pub left_of : Configuration → Head → Turn → ℕ → ℕ → Kind
left_of c head Left q i = cond (suc i == head.cell) (FromRight q (slice_index c.symbols i)) (LeftOf (slice_index c.symbols i))
left_of c head Right q i = LeftOf (slice_index c.symbols i)
left_of c head Stay q i = LeftOf (slice_index c.symbols i)

abbrev pub right_of : Configuration → Head → Turn → ℕ → ℕ → Kind
right_of c head Left q i = RightOf (slice_index c.symbols i)
right_of c head Right q i = cond (i == suc head.cell) (FromLeft q (slice_index c.symbols i)) (RightOf (slice_index c.symbols i))
right_of c head Stay q i = RightOf (slice_index c.symbols i)

-- the tile over a cell of a configuration with this head and rule
abbrev pub kind_over : Configuration → Head → Rule → ℕ → Kind
kind_over c head act i =
    cond (nat_lt i head.cell) (left_of c head act.turn act.state i)
    (cond (nat_lt head.cell i) (right_of c head act.turn act.state i) (Action head.state (slice_index c.symbols head.cell)))

module _ (M : TuringMachine) where
  -- the configuration that a rule makes, of a head in cell h that goes to state p and writes b
  module _ (xs : List ℕ) (h q p b : ℕ) where
    abbrev was : Configuration
    was = record { symbols = xs; head = Some (record { cell = h; state = q }) }

    abbrev at : Head
    at = record { cell = h; state = q }

    abbrev is_now : Turn → Configuration
    is_now turn = record { symbols = slice_set xs h b; head = moved (M.cells - 1) turn h p }

    kept_symbol : (i : ℕ) → i ≢ h → slice_index (slice_set xs h b) i ≡ slice_index xs i
    kept_symbol i other = get_or-set_other xs h i b 0 other

    -- where the head isn't, a cell shows its symbol
    away_shown : (hd : Option Head) (i a : ℕ) → state_in hd i ≡ None → slice_index (slice_set xs h b) i ≡ a → cell_of (record { symbols = slice_set xs h b; head = hd }) i ≡ plain a
    away_shown hd i a away same = λ z. record { symbol = same z; state = away z }

    -- and where it is, that with its state
    head_shown : (i a : ℕ) → slice_index (slice_set xs h b) i ≡ a → cell_of (record { symbols = slice_set xs h b; head = Some (record { cell = i; state = p }) }) i ≡ headed p a
    head_shown i a same = λ z. record { symbol = same z; state = cond (eqb_same i z) (Some p) None }

    right_away : (i : ℕ) → i ≢ suc h → state_in (moved (M.cells - 1) Right h p) i ≡ None
    right_away i other = elim (nat_lt h (M.cells - 1)) as (λ t. state_in (cond t (Some (record { cell = suc h; state = p })) None) i ≡ None) [
      | true ↦ ap (λ t. cond t (Some p) None) (eqb_other i (suc h) other)
      | false ↦ refl
    ]

    stay_away : (i : ℕ) → i ≢ h → state_in (moved (M.cells - 1) Stay h p) i ≡ None
    stay_away i other = ap (λ t. cond t (Some p) None) (eqb_other i h other)

    left_away : (n i : ℕ) → suc i ≢ n → state_in (moved (M.cells - 1) Left n p) i ≡ None
    left_away zero i differ = refl
    left_away (suc n) i differ = ap (λ t. cond t (Some p) None) (eqb_other i n (λ e. differ (ap suc e)))

    -- the tile over the head
    shown_here : (turn : Turn) → h < length xs → action_shown p b turn ≡ cell_of (is_now turn) h
    shown_here Stay inside = sym (head_shown h b (get_or-set_same xs h b 0 inside))
    shown_here Right inside = sym (away_shown (moved (M.cells - 1) Right h p) h b (right_away h (λ e. let never : ⊥ = omega (arith, e) in never)) (get_or-set_same xs h b 0 inside))
    shown_here Left inside = sym (away_shown (moved (M.cells - 1) Left h p) h b (left_away h h (λ e. let never : ⊥ = omega (arith, e) in never)) (get_or-set_same xs h b 0 inside))

    -- those to the left of it
    shown_left : (turn : Turn) (i : ℕ) → i < h → shown M (left_of was at turn p i) ≡ Some (cell_of (is_now turn) i)
    shown_left Stay i less =
        let other : i ≢ h = λ e. let never : ⊥ = omega (arith, e, less) in never in
        ap (λ s. Some s) (sym (away_shown (moved (M.cells - 1) Stay h p) i (slice_index xs i) (stay_away i other) (kept_symbol i other)))
    shown_left Right i less =
        let other : i ≢ h = λ e. let never : ⊥ = omega (arith, e, less) in never in
        ap (λ s. Some s) (sym (away_shown (moved (M.cells - 1) Right h p) i (slice_index xs i) (right_away i (λ e. let never : ⊥ = omega (arith, e, less) in never)) (kept_symbol i other)))
    shown_left Left i less = elim (eqb_tells (suc i) h) [
      | inl same ↦
          let other : i ≢ h = λ e. let f = same.1 in let never : ⊥ = omega (arith, e, f) in never in
          let now : moved (M.cells - 1) Left h p ≡ Some (record { cell = i; state = p }) = ap (λ n. moved (M.cells - 1) Left n p) (sym same.1) in
          ap (λ t. shown M (cond t (FromRight p (slice_index xs i)) (LeftOf (slice_index xs i)))) same.0
          ∙ ap (λ s. Some s) (sym (head_shown i (slice_index xs i) (kept_symbol i other)))
          ∙ sym (ap (λ hd. Some (cell_of (record { symbols = slice_set xs h b; head = hd }) i)) now)
      | inr differ ↦
          let other : i ≢ h = λ e. let never : ⊥ = omega (arith, e, less) in never in
          ap (λ t. shown M (cond t (FromRight p (slice_index xs i)) (LeftOf (slice_index xs i)))) differ.0
          ∙ ap (λ s. Some s) (sym (away_shown (moved (M.cells - 1) Left h p) i (slice_index xs i) (left_away h i differ.1) (kept_symbol i other)))
    ]

    -- and those to the right of it
    shown_right : (turn : Turn) (i : ℕ) → h < i → i ≤ M.cells - 1 → shown M (right_of was at turn p i) ≡ Some (cell_of (is_now turn) i)
    shown_right Stay i more within =
        let other : i ≢ h = λ e. let never : ⊥ = omega (arith, e, more) in never in
        ap (λ s. Some s) (sym (away_shown (moved (M.cells - 1) Stay h p) i (slice_index xs i) (stay_away i other) (kept_symbol i other)))
    shown_right Left i more within =
        let other : i ≢ h = λ e. let never : ⊥ = omega (arith, e, more) in never in
        ap (λ s. Some s) (sym (away_shown (moved (M.cells - 1) Left h p) i (slice_index xs i) (left_away h i (λ e. let never : ⊥ = omega (arith, e, more) in never)) (kept_symbol i other)))
    shown_right Right i more within = elim (eqb_tells i (suc h)) [
      | inl same ↦
          let e = same.1 in
          let other : i ≢ h = λ f. let never : ⊥ = omega (arith, e, f) in never in
          let less : h < M.cells - 1 = omega (arith, e, within) in
          let now : moved (M.cells - 1) Right h p ≡ Some (record { cell = i; state = p }) =
          ap (λ t. cond t (Some (record { cell = suc h; state = p })) None) (is_less h (M.cells - 1) less) ∙ ap (λ n. Some (record { cell = n; state = p })) (sym e)
          in
          ap (λ t. shown M (cond t (FromLeft p (slice_index xs i)) (RightOf (slice_index xs i)))) same.0
          ∙ ap (λ s. Some s) (sym (head_shown i (slice_index xs i) (kept_symbol i other)))
          ∙ sym (ap (λ hd. Some (cell_of (record { symbols = slice_set xs h b; head = hd }) i)) now)
      | inr differ ↦
          let other : i ≢ h = λ e. let never : ⊥ = omega (arith, e, more) in never in
          ap (λ t. shown M (cond t (FromLeft p (slice_index xs i)) (RightOf (slice_index xs i)))) differ.0
          ∙ ap (λ s. Some s) (sym (away_shown (moved (M.cells - 1) Right h p) i (slice_index xs i) (right_away i differ.1) (kept_symbol i other)))
    ]

  -- each tile turns up what it shows
  action_north : (q a p b : ℕ) (turn : Turn) → action_side M q a p b turn North ≡ upward M (action_shown p b turn)
  action_north q a p b Left = refl
  action_north q a p b Right = refl
  action_north q a p b Stay = refl

  north_shown : (k : Kind) (s : Shown) → shown M k ≡ Some s → side M k North ≡ upward M s
  north_shown (First i) s there = first_north M i ∙ ap (upward M) (same_Some (cell_of (first M) i) s there)
  north_shown (Action q a) s there = elim (some_or_none (rule_among M.rules q a)) [
    | inl none ↦ absurd (none-some s (sym (ap (option_map (λ (x : Rule). action_shown x.state x.symbol x.turn)) none) ∙ there))
    | inr act ↦
        let cell = action_shown act.0.state act.0.symbol act.0.turn in
        let same : cell ≡ s = same_Some cell s (sym (ap (option_map (λ (x : Rule). action_shown x.state x.symbol x.turn)) act.1) ∙ there) in
        ap (option_and_then (λ (x : Rule). action_side M q a x.state x.symbol x.turn North)) act.1
        ∙ action_north q a act.0.state act.0.symbol act.0.turn
        ∙ ap (upward M) same
  ]
  north_shown (FromLeft q a) s there = ap (upward M) (same_Some (headed q a) s there)
  north_shown (FromRight q a) s there = ap (upward M) (same_Some (headed q a) s there)
  north_shown (RightOf a) s there = ap (upward M) (same_Some (plain a) s there)
  north_shown (LeftOf a) s there = ap (upward M) (same_Some (plain a) s there)

  -- which tile stands over a cell
  module _ (c : Configuration) (head : Head) (act : Rule) where
    abbrev here : Kind
    here = Action head.state (slice_index c.symbols head.cell)

    pub over_left : (i : ℕ) → i < head.cell → kind_over c head act i ≡ left_of c head act.turn act.state i
    over_left i less = ap (λ t. cond t (left_of c head act.turn act.state i) (cond (nat_lt head.cell i) (right_of c head act.turn act.state i) here)) (is_less i head.cell less)

    pub over_right : (i : ℕ) → head.cell < i → kind_over c head act i ≡ right_of c head act.turn act.state i
    over_right i more =
        ap (λ t. cond t (left_of c head act.turn act.state i) (cond (nat_lt head.cell i) (right_of c head act.turn act.state i) here)) (not_less i head.cell (omega (arith, more)))
        ∙ ap (λ t. cond t (right_of c head act.turn act.state i) here) (is_less head.cell i more)

    pub over_here : kind_over c head act head.cell ≡ here
    over_here =
        let h = head.cell in
        ap (λ t. cond t (left_of c head act.turn act.state h) (cond (nat_lt h h) (right_of c head act.turn act.state h) here)) (not_less h h (le_refl h))
        ∙ ap (λ t. cond t (right_of c head act.turn act.state h) here) (not_less h h (le_refl h))

    pub side_here : (d : Side) → action M c head ≡ Some act → side M here d ≡ action_side M head.state (slice_index c.symbols head.cell) act.state act.symbol act.turn d
    side_here d by = ap (option_and_then (λ (a : Rule). action_side M head.state (slice_index c.symbols head.cell) a.state a.symbol a.turn d)) by

    -- it shows the cell of the next configuration
    pub shown_over : IsConfigOf M c → (i : ℕ) → c.head ≡ Some head → action M c head ≡ Some act → i ≤ M.cells - 1 → shown M (kind_over c head act i) ≡ Some (cell_of (acted (M.cells - 1) c head act) i)
    shown_over config i there by within = elim (cases_order i head.cell) [
      | inl same ↦ subst (λ n. shown M (kind_over c head act n) ≡ Some (cell_of (acted (M.cells - 1) c head act) n)) (sym same)
          (ap (shown M) over_here
          ∙ ap (option_map (λ (a : Rule). action_shown a.state a.symbol a.turn)) by
          ∙ ap (λ s. Some s) (shown_here c.symbols head.cell head.state act.state act.symbol act.turn head_inside))
      | inr rest ↦ elim rest [
        | inl less ↦ ap (shown M) (over_left i less) ∙ shown_left c.symbols head.cell head.state act.state act.symbol act.turn i less
        | inr more ↦ ap (shown M) (over_right i more) ∙ shown_right c.symbols head.cell head.state act.state act.symbol act.turn i more within
      ]
    ]
      where
        head_inside : head.cell < length c.symbols
        head_inside = head_in_cells M c config head there

    -- so that cell's label stands on its north side
    pub north_over : IsConfigOf M c → (i : ℕ) → c.head ≡ Some head → action M c head ≡ Some act → i ≤ M.cells - 1 → side M (kind_over c head act i) North ≡ upward M (cell_of (acted (M.cells - 1) c head act) i)
    north_over config i there by within = north_shown (kind_over c head act i) (cell_of (acted (M.cells - 1) c head act) i) (shown_over config i there by within)
