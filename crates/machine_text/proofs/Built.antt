-- A machine in the making has what the lines give, and is sound.
use Rattle.std.proofs.Common.{◌≡◌, ◌≢◌, ◌<◌, ◌≤◌, ◌+◌, ◌==◌, ℕ, true, false, List, [], ◌∷◌, ◌++◌, length, get_or, Option, Some, None, refl, sym, ◌∙◌, ap, subst, inl, inr, arith, length-append}
use Rattle.std.specs.Prelude.{codes, IsTrue, AllPairs, bytes_eq, option_map, find}
use Rattle.std.specs.Option.{unwrap_or}
use Rattle.std.specs.List.{list_any}
use Rattle.std.proofs.lemmas.Bool.{cases_Bool, eqb-true}
use Rattle.std.proofs.lemmas.List.Elements.{All-push, All-append}
use Rattle.std.proofs.lemmas.List.Quantifiers.{all_pairs_push}
use Rattle.std.proofs.lemmas.Slice.Eq.{bytes_eq-Decides}
use Rattle.std.proofs.lemmas.Option.{none-some, same_Some}
use Rattle.tile_io.specs.declared.mark.Mark.{Mark}
use Rattle.tile_io.specs.Checks.{last_of}
use Rattle.tile_io.specs.Formats.{Reads}
use Rattle.tile_io.proofs.Checking.{last_push}
use Rattle.machine_text.specs.declared.rule.Transition.{Transition}
use Rattle.machine_text.specs.declared.kind.LineKind.{LineKind}
use Rattle.machine_text.specs.declared.kind.LineKind.TheVariants as kinds
use Rattle.machine_text.specs.Machines.{TuringMachine, IsTransition, IsMachine, is_for, is_short_name, rule_among}
use Rattle.machine_text.specs.MachineText.{MachineItem, machine_of, machine_format, machine_table}
use Rattle.machine_text.specs.Inner.Kinds.{word_of_kind, may_stand_after, is_last}
use Rattle.machine_text.specs.Inner.SoFar.{AreNames, IsDraft, HasAlphabet, HasAll, HasCome, HoldsLines}
use Rattle.machine_text.proofs.Lines.{MachineLine, IsFit, IsLine, kind_of, with_line}
use Rattle.machine_text.proofs.Lines.MachineLine.{Header, StateLine, SymbolLine, RuleLine, CellsLine, RowsLine, HeadLine, TapeLine, EndLine}
use Rattle.machine_text.proofs.Finding.{each_fails, none_found}
use Rattle.machine_text.proofs.RuleTables.{is_own}
use Rattle.tile_io.proofs.PassedFields.{and_both}

-- It stays sound.
names_push : (names : List (List ℕ)) (name : List ℕ) → AreNames names → IsTrue (is_short_name name) → list_any (bytes_eq name) names ≡ false → AreNames (names ++ name ∷ [])
names_push names name are short new = record {
  short = All-push (λ n. IsTrue (is_short_name n)) names name are.short short;
  distinct = all_pairs_push (λ a b. a ≢ b) names name are.distinct (λ k d within same.
      let differ = each_fails (bytes_eq name) names new k d within in
      let equal : bytes_eq name (get_or names k d) ≡ true = (bytes_eq-Decides name (get_or names k d)).1 (sym same) in
      let clash : true ≡ false = sym equal ∙ differ in
      cc clash);
}

no_rule : (found : Option Transition) → option_map (λ t. t.rule) found ≡ None → found ≡ None
no_rule None none = refl
no_rule (Some t) none = absurd (none-some t.rule (sym none))

-- of two transitions, each is for the other's state and symbol, or none is
is_for_turned : (t u : Transition) → is_for t.state t.symbol u ≡ false → is_for u.state u.symbol t ≡ false
is_for_turned t u not = elim (cases_Bool (is_for u.state u.symbol t)) [
  | inl is ↦
      let both = and_both (t.state == u.state) (t.symbol == u.symbol) is in
      let own = is_own u t.state t.symbol (sym (eqb-true t.state u.state both.0)) (sym (eqb-true t.symbol u.symbol both.1)) in
      let clash : true ≡ false = sym own ∙ not in
      absurd (cc clash)
  | inr other ↦ other
]

rules_push : (rules : List Transition) (t : Transition) → AllPairs (λ u v. is_for u.state u.symbol v ≡ false) rules → rule_among rules t.state t.symbol ≡ None → AllPairs (λ u v. is_for u.state u.symbol v ≡ false) (rules ++ t ∷ [])
rules_push rules t distinct fresh =
    all_pairs_push (λ u v. is_for u.state u.symbol v ≡ false) rules t distinct (λ k d within.
    is_for_turned t (get_or rules k d) (none_found (is_for t.state t.symbol) rules (no_rule (find (is_for t.state t.symbol) rules) fresh) k d within))

draft_push : (M : TuringMachine) (item : MachineLine) → IsDraft M → IsFit M item → IsDraft (with_line M item)
draft_push M Header draft fit = draft
draft_push M EndLine draft fit = draft
draft_push M (StateLine name) draft fit =
    let more : length (M.states ++ name ∷ []) ≡ length M.states + 1 = length-append M.states (name ∷ []) in
    record {
      few = record { states = omega (arith, more, fit.0); symbols = draft.few.symbols };
      state_names = names_push M.states name draft.state_names fit.1 fit.2;
      symbol_names = draft.symbol_names;
      transitions = λ k d within. let t = draft.transitions k d within in record { state = omega (arith, more, t.state); symbol = t.symbol; next_state = omega (arith, more, t.next_state); next_symbol = t.next_symbol };
      distinct_rules = draft.distinct_rules;
      cell_count = draft.cell_count;
      row_count = draft.row_count;
      tape_symbols = draft.tape_symbols;
    }
draft_push M (SymbolLine name) draft fit =
    let more : length (M.symbols ++ name ∷ []) ≡ length M.symbols + 1 = length-append M.symbols (name ∷ []) in
    record {
      few = record { states = draft.few.states; symbols = omega (arith, more, fit.0) };
      state_names = draft.state_names;
      symbol_names = names_push M.symbols name draft.symbol_names fit.1 fit.2;
      transitions = λ k d within. let t = draft.transitions k d within in record { state = t.state; symbol = omega (arith, more, t.symbol); next_state = t.next_state; next_symbol = omega (arith, more, t.next_symbol) };
      distinct_rules = draft.distinct_rules;
      cell_count = draft.cell_count;
      row_count = draft.row_count;
      tape_symbols = λ k d within. let below = draft.tape_symbols k d within in omega (arith, more, below);
    }
draft_push M (RuleLine t) draft fit = record {
  few = record { states = draft.few.states; symbols = draft.few.symbols };
  state_names = draft.state_names;
  symbol_names = draft.symbol_names;
  transitions = All-push (IsTransition (length M.states) (length M.symbols)) M.rules t draft.transitions fit.0;
  distinct_rules = rules_push M.rules t draft.distinct_rules fit.1;
  cell_count = draft.cell_count;
  row_count = draft.row_count;
  tape_symbols = draft.tape_symbols;
}
draft_push M (CellsLine n) draft fit = record {
  few = record { states = draft.few.states; symbols = draft.few.symbols };
  state_names = draft.state_names;
  symbol_names = draft.symbol_names;
  transitions = draft.transitions;
  distinct_rules = draft.distinct_rules;
  cell_count = fit.1;
  row_count = draft.row_count;
  tape_symbols = draft.tape_symbols;
}
draft_push M (RowsLine n) draft fit = record {
  few = record { states = draft.few.states; symbols = draft.few.symbols };
  state_names = draft.state_names;
  symbol_names = draft.symbol_names;
  transitions = draft.transitions;
  distinct_rules = draft.distinct_rules;
  cell_count = draft.cell_count;
  row_count = fit.1;
  tape_symbols = draft.tape_symbols;
}
draft_push M (HeadLine n) draft fit = record {
  few = record { states = draft.few.states; symbols = draft.few.symbols };
  state_names = draft.state_names;
  symbol_names = draft.symbol_names;
  transitions = draft.transitions;
  distinct_rules = draft.distinct_rules;
  cell_count = draft.cell_count;
  row_count = draft.row_count;
  tape_symbols = draft.tape_symbols;
}
draft_push M (TapeLine symbols) draft fit = record {
  few = record { states = draft.few.states; symbols = draft.few.symbols };
  state_names = draft.state_names;
  symbol_names = draft.symbol_names;
  transitions = draft.transitions;
  distinct_rules = draft.distinct_rules;
  cell_count = draft.cell_count;
  row_count = draft.row_count;
  tape_symbols = All-append (λ a. a < length M.symbols) M.tape symbols draft.tape_symbols fit.0;
}

-- Each line comes after those that it needs.
same_alphabet : (M N : TuringMachine) → HasAlphabet M → length M.states ≤ length N.states → length M.symbols ≤ length N.symbols → N.tape ≡ M.tape → HasAlphabet N
same_alphabet M N has states symbols tape = record { some_state = omega (arith, has.some_state, states); some_symbol = omega (arith, has.some_symbol, symbols); no_tape = tape ∙ has.no_tape }

one_more : {X : Type 0} (xs : List X) (x : X) → (1 ≤ length (xs ++ x ∷ [])) × (length xs ≤ length (xs ++ x ∷ []))
one_more xs x = let more : length (xs ++ x ∷ []) ≡ length xs + 1 = length-append xs (x ∷ []) in (omega (arith, more), omega (arith, more))

all_with_tape : (M : TuringMachine) (symbols : List ℕ) → HasAll M → length M.tape + length symbols ≤ M.cells → HasAll (with_line M (TapeLine symbols))
all_with_tape M symbols has room =
    let longer : length (M.tape ++ symbols) ≡ length M.tape + length symbols = length-append M.tape symbols in
    record {
      some_state = has.some_state;
      some_symbol = has.some_symbol;
      some_cell = has.some_cell;
      some_row = has.some_row;
      head_cell = has.head_cell;
      tape_length = omega (arith, longer, room);
    }

-- nothing follows the end line
never_after_end : (item : MachineLine) → may_stand_after (kind_of item) (Some kinds.End) ≡ true → ⊥
never_after_end Header stands = cc stands
never_after_end item stands = cc stands

come_push : (M : TuringMachine) (last : Option LineKind) (item : MachineLine) → may_stand_after (kind_of item) last ≡ true → HasCome last M → IsFit M item → HasCome (Some (kind_of item)) (with_line M item)
come_push M None Header stands come fit = come
come_push M (Some kinds.Machine) (StateLine name) stands come fit = ((one_more M.states name).0, come)
come_push M (Some kinds.State) (StateLine name) stands come fit = ((one_more M.states name).0, come.1)
come_push M (Some kinds.State) (SymbolLine name) stands come fit = record { some_state = come.0; some_symbol = (one_more M.symbols name).0; no_tape = come.1 }
come_push M (Some kinds.Symbol) (SymbolLine name) stands come fit = same_alphabet M (with_line M (SymbolLine name)) come (omega arith) (one_more M.symbols name).1 refl
come_push M (Some kinds.Symbol) (RuleLine t) stands come fit = same_alphabet M (with_line M (RuleLine t)) come (omega arith) (omega arith) refl
come_push M (Some kinds.Rule) (RuleLine t) stands come fit = same_alphabet M (with_line M (RuleLine t)) come (omega arith) (omega arith) refl
come_push M (Some kinds.Symbol) (CellsLine n) stands come fit = (same_alphabet M (with_line M (CellsLine n)) come (omega arith) (omega arith) refl, fit.0)
come_push M (Some kinds.Rule) (CellsLine n) stands come fit = (same_alphabet M (with_line M (CellsLine n)) come (omega arith) (omega arith) refl, fit.0)
come_push M (Some kinds.Cells) (RowsLine n) stands come fit = (same_alphabet M (with_line M (RowsLine n)) come.0 (omega arith) (omega arith) refl, come.1, fit.0)
come_push M (Some kinds.Rows) (HeadLine n) stands come fit =
    let empty : length M.tape ≡ 0 = ap length come.0.no_tape in
    record {
      some_state = come.0.some_state;
      some_symbol = come.0.some_symbol;
      some_cell = come.1;
      some_row = come.2;
      head_cell = (let cells = come.1 in omega (arith, fit, cells));
      tape_length = omega (arith, empty);
    }
come_push M (Some kinds.Head) (TapeLine symbols) stands come fit = all_with_tape M symbols come fit.1
come_push M (Some kinds.Tape) (TapeLine symbols) stands come fit = all_with_tape M symbols come fit.1
come_push M (Some kinds.Head) EndLine stands come fit = come
come_push M (Some kinds.Tape) EndLine stands come fit = come
come_push M (Some kinds.End) item stands come fit = absurd (never_after_end item stands)
come_push M last item stands come fit = absurd (cc stands)

-- what is held survives a line
pub holds-push : (M : TuringMachine) (last : Option LineKind) (kind : LineKind) (items : List MachineItem) (item : MachineItem) → HoldsLines M last items → may_stand_after kind last ≡ true → IsLine M kind item →
    HoldsLines item.1 (Some kind) (items ++ item ∷ [])
unfolding machine_of
holds-push M last kind items item held stands is =
    let now : with_line M is.line ≡ item.1 = ap (λ (pair : MachineItem). pair.1) is.is in
    let worded : (word_of_kind kind, item.1) ≡ item = ap (λ N. (word_of_kind kind, N)) (sym now) ∙ is.is in
    let stood : may_stand_after (kind_of is.line) last ≡ true = ap (λ k. may_stand_after k last) is.keyword ∙ stands in
    let come : HasCome (Some kind) (with_line M is.line) = subst (λ k. HasCome (Some k) (with_line M is.line)) is.keyword (come_push M last is.line stood held.come is.fit) in
    record {
      machine = sym (ap (λ o. unwrap_or (option_map (λ (pair : MachineItem). pair.1) o) (machine_of [])) (last_push items item));
      last_item = last_push items item ∙ ap (λ (i : MachineItem). Some i) (sym worded);
      draft = subst IsDraft now (draft_push M is.line held.draft is.fit);
      come = subst (HasCome (Some kind)) now come;
    }

-- before the first line
pub nothing_held : HoldsLines (machine_of []) None []
unfolding machine_of
nothing_held = record {
  machine = refl;
  last_item = refl;
  draft = record {
    few = record { states = omega arith; symbols = omega arith };
    state_names = record { short = λ k d within. none_within within; distinct = λ i j d before within. none_within within };
    symbol_names = record { short = λ k d within. none_within within; distinct = λ i j d before within. none_within within };
    transitions = λ k d within. none_within within;
    distinct_rules = λ i j d before within. none_within within;
    cell_count = omega arith;
    row_count = omega arith;
    tape_symbols = λ k d within. none_within within;
  };
  come = refl;
}
  where
    none_within : {P : Type 0} {n : ℕ} → n < 0 → P
    none_within within = let never : ⊥ = omega (arith, within) in absurd never

pub last_is : (kind : LineKind) → bytes_eq (word_of_kind kind) (codes "end") ≡ is_last kind
last_is kinds.Machine = refl
last_is kinds.State = refl
last_is kinds.Symbol = refl
last_is kinds.Rule = refl
last_is kinds.Cells = refl
last_is kinds.Rows = refl
last_is kinds.Head = refl
last_is kinds.Tape = refl
last_is kinds.End = refl

-- after the end line there is a machine
is_machine : (M : TuringMachine) → IsDraft M → HasAll M → IsMachine M
is_machine M draft has = record {
  states = record { count = (has.some_state, draft.few.states); short = draft.state_names.short; distinct = draft.state_names.distinct };
  symbols = record { count = (has.some_symbol, draft.few.symbols); short = draft.symbol_names.short; distinct = draft.symbol_names.distinct };
  transitions = draft.transitions;
  distinct_rules = draft.distinct_rules;
  cells = (has.some_cell, draft.cell_count);
  rows = (has.some_row, draft.row_count);
  head_cell = has.head_cell;
  tape_length = has.tape_length;
  tape_symbols = draft.tape_symbols;
}

ends_at_end : (M : TuringMachine) (last : Option LineKind) (item : MachineItem) → Some item ≡ option_map (λ kind. (word_of_kind kind, M)) last → bytes_eq item.0 (codes "end") ≡ true → last ≡ Some kinds.End
ends_at_end M None item is ends = absurd (none-some item (sym is))
ends_at_end M (Some kinds.End) item is ends = refl
ends_at_end M (Some kind) item is ends =
    let same = same_Some item (word_of_kind kind, M) is in
    let end : bytes_eq (word_of_kind kind) (codes "end") ≡ true = ap (λ (pair : MachineItem). bytes_eq pair.0 (codes "end")) (sym same) ∙ ends in
    absurd (cc end)

-- what was read to the end line is a machine
pub IsMachine-read : (M : TuringMachine) (last : Option LineKind) (items : List MachineItem) (text : List ℕ) (from to : Mark) → HoldsLines M last items → Reads machine_format text from items to → IsMachine M
unfolding machine_table
IsMachine-read M last items text from to held reads = elim reads [
  | inl read ↦
      let is : Some read.last ≡ option_map (λ kind. (word_of_kind kind, M)) last = sym (ap last_of read.whole ∙ last_push read.earlier read.last) ∙ held.last_item in
      is_machine M held.draft (subst (λ k. HasCome k M) (ends_at_end M last read.last is read.ends) held.come)
  | inr read ↦ absurd (cc (read.complete))
]
