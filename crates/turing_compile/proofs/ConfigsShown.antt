-- A configuration that a row shows is one of the machine.
use Rattle.std.proofs.Common.{◌≡◌, ◌<◌, ◌+◌, ◌==◌, cond, nat_le, ℕ, zero, suc, true, false, List, [], ◌∷◌, length, map, Option, Some, None, IfSome, All, slice_get, option_map, option_and_then, refl, sym, ◌∙◌, ap, subst, inl, inr, arith}
use Rattle.std.specs.List.{range_with_len}
use Rattle.std.proofs.lemmas.Bool.{cases_Bool}
use Rattle.std.proofs.lemmas.List.{length-map}
use Rattle.std.proofs.lemmas.List.Elements.{All-nil, All-cons}
use Rattle.std.proofs.lemmas.Option.{same_Some, none-some}
use Rattle.atam.specs.declared.place.Place.{Place}
use Rattle.atam.specs.Placements.{tile_at}
use Rattle.atam.proofs.Lists.{some_or_none, slice_get-Contains}
use Rattle.design.specs.TileSets.{cell_site}
use Rattle.design.proofs.Listings.{Each, each-append}
use Rattle.machine_text.specs.declared.rule.Turn.{Turn}
use Rattle.machine_text.specs.declared.rule.Turn.TheVariants.{Left, Right, Stay}
use Rattle.machine_text.specs.declared.rule.Rule.{Rule}
use Rattle.machine_text.specs.declared.config.Head.{Head}
use Rattle.machine_text.specs.Machines.{TuringMachine, Configuration, rule_among, first, IsMachine, IsConfigOf}
use Rattle.turing_compile.specs.declared.kind.Kind.{Kind}
use Rattle.turing_compile.specs.declared.kind.Kind.TheVariants.{First, Action, FromLeft, FromRight, RightOf, LeftOf}
use Rattle.turing_compile.specs.declared.kind.Shown.{Shown}
use Rattle.turing_compile.specs.Shown.{cell_of, plain, headed, action_shown, shown}
use Rattle.turing_compile.specs.Inner.Listed.{kinds}
use Rattle.turing_compile.specs.Rows.{type_shown, tile_shown, all_of, row_shown, head_shown, heads_from, shown_config, row_config}
use Rattle.turing_compile.specs.Inner.Members.{IsKind}
use Rattle.machine_text.proofs.Finding.{some_is}
use Rattle.turing_compile.proofs.MachineFacts.{rule_bounds, symbol_below, first_config}
use Rattle.turing_compile.proofs.Listed.{listed_kind}
use Rattle.turing_compile.proofs.RowReading.{front_of, length-row_shown}

-- what some option holds, the next of it holds
after_some : {X Y : Type 0} (o : Option X) (f : X → Option Y) (y : Y) → option_and_then f o ≡ Some y → (x : X) × (o ≡ Some x) × (f x ≡ Some y)
after_some None f y there = absurd (none-some y there)
after_some (Some x) f y there = (x, refl, there)

module _ (M : TuringMachine) (is_machine : IsMachine M) where
  -- the symbol and the state of a cell are the machine's
  record IsCell (s : Shown) : Type 0 where
    symbol : s.symbol < length M.symbols
    state : IfSome s.state (λ q. q < length M.states)

  plain_cell : (a : ℕ) → a < length M.symbols → IsCell (plain a)
  plain_cell a less = record { symbol = less; state = tt }

  headed_cell : (q a : ℕ) → q < length M.states → a < length M.symbols → IsCell (headed q a)
  headed_cell q a q_less a_less = record { symbol = a_less; state = q_less }

  first_cell : (i : ℕ) → IsCell (cell_of (first M) i)
  first_cell i = record {
    symbol = symbol_below M is_machine (first M) (first_config M is_machine) i;
    state = elim (i == M.head) as (λ t. IfSome (cond t (Some 0) None) (λ q. q < length M.states)) [ true ↦ is_machine.states.count.0 | false ↦ tt ];
  }

  action_cell : (p b : ℕ) (turn : Turn) → p < length M.states → b < length M.symbols → IsCell (action_shown p b turn)
  action_cell p b Left p_less b_less = plain_cell b b_less
  action_cell p b Right p_less b_less = plain_cell b b_less
  action_cell p b Stay p_less b_less = headed_cell p b p_less b_less

  kind_cell : (k : Kind) → IsKind M k → (s : Shown) → shown M k ≡ Some s → IsCell s
  kind_cell (First i) kind s there = subst IsCell (same_Some (cell_of (first M) i) s there) (first_cell i)
  kind_cell (Action q a) kind s there =
      let act = some_is (rule_among M.rules q a) kind in
      let bounds = rule_bounds M is_machine q a act.0 act.1 in
      let cell = action_shown act.0.state act.0.symbol act.0.turn in
      let same : cell ≡ s = same_Some cell s (sym (ap (option_map (λ (x : Rule). action_shown x.state x.symbol x.turn)) act.1) ∙ there) in
      subst IsCell same (action_cell act.0.state act.0.symbol act.0.turn bounds.next_state bounds.next_symbol)
  kind_cell (FromLeft q a) kind s there = subst IsCell (same_Some (headed q a) s there) (headed_cell q a kind.0 kind.1)
  kind_cell (FromRight q a) kind s there = subst IsCell (same_Some (headed q a) s there) (headed_cell q a kind.0 kind.1)
  kind_cell (RightOf a) kind s there = subst IsCell (same_Some (plain a) s there) (plain_cell a kind)
  kind_cell (LeftOf a) kind s there = subst IsCell (same_Some (plain a) s there) (plain_cell a kind)

  tile_cell : (tiles : List Place) (y i : ℕ) (s : Shown) → tile_shown M tiles y i ≡ Some s → IsCell s
  tile_cell tiles y i s there =
      let t = after_some (tile_at tiles (cell_site i y)) (type_shown M) s there in
      let k = after_some (slice_get (kinds M) t.0.0) (shown M) s t.2 in
      kind_cell k.0 (listed_kind M is_machine k.0 (slice_get-Contains (kinds M) t.0.0 k.0 k.1)) s k.2

  -- all cells of a row are so
  row_cells : (f : ℕ → Option Shown) → ((i : ℕ) (s : Shown) → f i ≡ Some s → IsCell s) → (a n : ℕ) (cells : List Shown) → all_of (map f (range_with_len a n)) ≡ Some cells → Each IsCell cells
  row_cells f each a zero cells all = subst (Each IsCell) (same_Some [] cells all) tt
  row_cells f each a (suc n) cells all = elim (some_or_none (f a)) [
    | inl none ↦ absurd (none-some cells (sym (ap (option_and_then (λ y. option_map (λ ys. y ∷ ys) (all_of (map f (range_with_len (a + 1) n))))) none) ∙ all))
    | inr s ↦
        let front = front_of s.0 (map f (range_with_len (a + 1) n)) cells (sym (ap (option_and_then (λ y. option_map (λ ys. y ∷ ys) (all_of (map f (range_with_len (a + 1) n))))) s.1) ∙ all) in
        subst (Each IsCell) front.whole (each a s.0 s.1, row_cells f each (a + 1) n front.rest front.there)
  ]

  symbols_below : (cells : List Shown) → Each IsCell cells → All (λ a. a < length M.symbols) (map (λ (cell : Shown). cell.symbol) cells)
  symbols_below [] each = All-nil (λ a. a < length M.symbols)
  symbols_below (cell ∷ cells) each = All-cons (λ a. a < length M.symbols) cell.symbol (map (λ (c : Shown). c.symbol) cells) each.0.symbol (symbols_below cells each.1)

  heads_below : (cells : List Shown) (a : ℕ) → Each IsCell cells → Each (λ h. (h.cell < a + length cells) × (h.state < length M.states)) (heads_from a cells)
  heads_below [] a each = tt
  heads_below (cell ∷ cells) a each =
      let Below : Head → Type 0 = λ h. (h.cell < a + suc (length cells)) × (h.state < length M.states) in
      each-append Below (head_shown a cell) (heads_from (a + 1) cells) (by cell.state each.0.state) (later (heads_from (a + 1) cells) (heads_below cells (a + 1) each.1))
    where
      by : (o : Option ℕ) → IfSome o (λ q. q < length M.states) →
          Each (λ h. (h.cell < a + suc (length cells)) × (h.state < length M.states)) (head_shown a (record { symbol = cell.symbol; state = o }))
      by None below = tt
      by (Some q) below = ((omega arith, below), tt)

      later : (hs : List Head) → Each (λ h. (h.cell < a + 1 + length cells) × (h.state < length M.states)) hs → Each (λ h. (h.cell < a + suc (length cells)) × (h.state < length M.states)) hs
      later [] each = tt
      later (h ∷ hs) each = let less = each.0.0 in ((omega (arith, less), each.0.1), later hs each.1)

  first_below : (hs : List Head) (n : ℕ) → Each (λ h. (h.cell < n) × (h.state < length M.states)) hs → IfSome (slice_get hs 0) (λ h. (h.cell < n) × (h.state < length M.states))
  first_below [] n each = tt
  first_below (h ∷ hs) n each = each.0

  pub config_shown : (tiles : List Place) (y : ℕ) (c : Configuration) → row_config M tiles y ≡ Some c → IsConfigOf M c
  config_shown tiles y c there =
      let r = after_some (row_shown M tiles y) shown_config c there in
      let cells = r.0 in
      let each = row_cells (tile_shown M tiles y) (tile_cell tiles y) 0 M.cells cells r.1 in
      let long = length-row_shown (tile_shown M tiles y) M.cells cells r.1 in
      let config : Configuration = record { symbols = map (λ (cell : Shown). cell.symbol) cells; head = slice_get (heads_from 0 cells) 0 } in
      let zero_and : 0 + length cells ≡ M.cells = omega (arith, long) in
      let is_config : IsConfigOf M config = record {
        cells = length-map cells (λ (cell : Shown). cell.symbol) ∙ long;
        symbols = symbols_below cells each;
        head = first_below (heads_from 0 cells) M.cells (subst (λ n. Each (λ h. (h.cell < n) × (h.state < length M.states)) (heads_from 0 cells)) zero_and (heads_below cells 0 each));
      } in
      elim (cases_Bool (nat_le (length (heads_from 0 cells)) 1)) [
        | inl few ↦ subst (IsConfigOf M) (same_Some config c (sym (ap (λ b. cond b (Some config) None) few) ∙ r.2)) is_config
        | inr many ↦ absurd (none-some c (sym (ap (λ b. cond b (Some config) None) many) ∙ r.2))
      ]

  pub configs_shown : (tiles : List Place) (y : ℕ) (cells : List Shown) (found : Option Configuration) → row_shown M tiles y ≡ Some cells → found ≡ shown_config cells → IfSome found (IsConfigOf M)
  configs_shown tiles y cells None row is = tt
  configs_shown tiles y cells (Some c) row is = config_shown tiles y c (ap (option_and_then shown_config) row ∙ sym is)
