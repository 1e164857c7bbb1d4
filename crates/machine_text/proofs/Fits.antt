-- What the checks of a line say of it.
use Rattle.std.proofs.Common.{◌≡◌, ◌<◌, ◌+◌, ◌-◌, ℕ, Bool, true, false, not, is_some, List, [], ◌∷◌, length, drop, Option, Some, None, Result, Ok, refl, ap, subst, arith, length-drop}
use Rattle.std.specs.Prelude.{bytes_eq, option_map}
use Rattle.std.proofs.lemmas.Bool.{ltb-true, leb-true}
use Rattle.tile_io.specs.declared.fault.Cause.{Cause}
use Rattle.tile_io.specs.declared.fault.Cause.TheVariants.{DoubleName, NoHeader}
use Rattle.tile_io.specs.Checks.{◌>>=◌, require, field, count_in, declared, referred}
use Rattle.tile_io.proofs.Checking.{bind_ok, require_ok}
use Rattle.tile_io.proofs.PassedFields.{count_ok, declared_ok, referred_ok, not_true}
use Rattle.machine_text.specs.declared.rule.Turn.{Turn}
use Rattle.machine_text.specs.declared.rule.Transition.{Transition}
use Rattle.machine_text.specs.declared.kind.LineKind.{LineKind}
use Rattle.machine_text.specs.declared.kind.LineKind.TheVariants as kinds
use Rattle.machine_text.specs.Machines.{TuringMachine, IsTransition, is_short_name, rule_among}
use Rattle.machine_text.specs.MachineText.{MachineItem, machine_of, transition_in, turn_field, references}
use Rattle.machine_text.specs.Inner.Kinds.{word_of_kind, row_of, may_stand_after, state_row, symbol_row, tape_row, machine_row, rule_row, cells_row, rows_row, head_row, end_row}
use Rattle.machine_text.proofs.Lines.{MachineLine, IsFit, IsLine, kind_of, with_line}
use Rattle.machine_text.proofs.Lines.MachineLine.{Header, StateLine, SymbolLine, RuleLine, CellsLine, RowsLine, HeadLine, TapeLine, EndLine}
use Rattle.machine_text.proofs.References.{references_ok}

none_of : {X : Type 0} (o : Option X) → is_some o ≡ false → o ≡ None
none_of None is = refl
none_of (Some x) is = absurd (cc is)

module _ (M : TuringMachine) where
  -- a transition is in range and new
  abbrev IsNew : Transition → Type 0
  IsNew t = IsTransition (length M.states) (length M.symbols) t × (rule_among M.rules t.state t.symbol ≡ None)

  abbrev made : ℕ → ℕ → ℕ → ℕ → Turn → Transition
  made q a p b turn = record { state = q; symbol = a; rule = record { state = p; symbol = b; turn = turn } }

  is_new : (q a p b : ℕ) (turn : Turn) (t : Transition) → q < length M.states → a < length M.symbols → p < length M.states → b < length M.symbols → is_some (rule_among M.rules q a) ≡ false → made q a p b turn ≡ t → IsNew t
  is_new q a p b turn t state symbol next_state next_symbol free same = subst IsNew same (record { state = state; symbol = symbol; next_state = next_state; next_symbol = next_symbol }, none_of (rule_among M.rules q a) free)

  -- a rule that was read is
  transition_ok : (words : List (List ℕ)) (t : Transition) → transition_in M words ≡ Ok t → IsNew t
  unfolding transition_in
  transition_ok words t is =
      let state : ℕ → Result ℕ Cause = λ i. referred is_short_name M.states (field words i) in
      let symbol : ℕ → Result ℕ Cause = λ i. referred is_short_name M.symbols (field words i) in
      let free : ℕ → ℕ → Bool = λ q a. not (is_some (rule_among M.rules q a)) in
      let last : ℕ → ℕ → ℕ → ℕ → Result Transition Cause = λ q a p b. turn_field (field words 5) >>= (λ turn. Ok (made q a p b turn)) in
      let fourth : ℕ → ℕ → ℕ → Result Transition Cause = λ q a p. symbol 4 >>= (λ b. last q a p b) in
      let third : ℕ → ℕ → Result Transition Cause = λ q a. state 3 >>= (λ p. fourth q a p) in
      let one = bind_ok (state 1) (λ q. symbol 2 >>= (λ a. require (free q a) DoubleName >>= (λ _. third q a))) t is in
      let two = bind_ok (symbol 2) (λ a. require (free one.0 a) DoubleName >>= (λ _. third one.0 a)) t one.2 in
      let new = bind_ok (require (free one.0 two.0) DoubleName) (λ _. third one.0 two.0) t two.2 in
      let three = bind_ok (state 3) (λ p. fourth one.0 two.0 p) t new.2 in
      let four = bind_ok (symbol 4) (λ b. last one.0 two.0 three.0 b) t three.2 in
      let five = bind_ok (turn_field (field words 5)) (λ turn. Ok (made one.0 two.0 three.0 four.0 turn)) t four.2 in
      is_new one.0 two.0 three.0 four.0 five.0 t
      (referred_ok is_short_name M.states (field words 1) one.0 one.1)
      (referred_ok is_short_name M.symbols (field words 2) two.0 two.1)
      (referred_ok is_short_name M.states (field words 3) three.0 three.1)
      (referred_ok is_short_name M.symbols (field words 4) four.0 four.1)
      (not_true (is_some (rule_among M.rules one.0 two.0)) (require_ok (free one.0 two.0) DoubleName new.0 new.1))
      (cc (five.2))

module _ (M : TuringMachine) (words : List (List ℕ)) (item : MachineItem) where
  line_is : (line : MachineLine) → IsFit M line → (word_of_kind (kind_of line), with_line M line) ≡ item → IsLine M (kind_of line) item
  line_is line fit is = record { line = line; keyword = refl; fit = fit; is = is }

  header_line : machine_row.fields M words ≡ Ok item → IsLine M kinds.Machine item
  header_line is =
      let one = bind_ok (require (bytes_eq (field words 1) (49 ∷ [])) NoHeader) (λ _. Ok (machine_row.word, M)) item is in
      line_is Header tt (cc (one.2))

  state_line : state_row.has_room M words ≡ true → state_row.fields M words ≡ Ok item → IsLine M kinds.State item
  state_line room is =
      let one = bind_ok (declared is_short_name M.states (field words 1)) (λ name. Ok (state_row.word, with_line M (StateLine name))) item is in
      let new = declared_ok is_short_name M.states (field words 1) one.0 one.1 in
      line_is (StateLine one.0) (ltb-true (length M.states) 64 room, new.0, new.1) (cc (one.2))

  symbol_line : symbol_row.has_room M words ≡ true → symbol_row.fields M words ≡ Ok item → IsLine M kinds.Symbol item
  symbol_line room is =
      let one = bind_ok (declared is_short_name M.symbols (field words 1)) (λ name. Ok (symbol_row.word, with_line M (SymbolLine name))) item is in
      let new = declared_ok is_short_name M.symbols (field words 1) one.0 one.1 in
      line_is (SymbolLine one.0) (ltb-true (length M.symbols) 64 room, new.0, new.1) (cc (one.2))

  rule_line : rule_row.fields M words ≡ Ok item → IsLine M kinds.Rule item
  rule_line is =
      let one = bind_ok (transition_in M words) (λ t. Ok (rule_row.word, with_line M (RuleLine t))) item is in
      line_is (RuleLine one.0) (transition_ok M words one.0 one.1) (cc (one.2))

  cells_line : cells_row.fields M words ≡ Ok item → IsLine M kinds.Cells item
  cells_line is =
      let one = bind_ok (count_in 1 512 (field words 1)) (λ n. Ok (cells_row.word, with_line M (CellsLine n))) item is in
      line_is (CellsLine one.0) (count_ok 1 512 (field words 1) one.0 one.1) (cc (one.2))

  rows_line : rows_row.fields M words ≡ Ok item → IsLine M kinds.Rows item
  rows_line is =
      let one = bind_ok (count_in 1 1024 (field words 1)) (λ n. Ok (rows_row.word, with_line M (RowsLine n))) item is in
      line_is (RowsLine one.0) (count_ok 1 1024 (field words 1) one.0 one.1) (cc (one.2))

  head_line : head_row.fields M words ≡ Ok item → IsLine M kinds.Head item
  head_line is =
      let one = bind_ok (count_in 0 (M.cells - 1) (field words 1)) (λ n. Ok (head_row.word, with_line M (HeadLine n))) item is in
      line_is (HeadLine one.0) (count_ok 0 (M.cells - 1) (field words 1) one.0 one.1).1 (cc (one.2))

  tape_line : tape_row.has_room M words ≡ true → tape_row.fields M words ≡ Ok item → IsLine M kinds.Tape item
  tape_line room is =
      let one = bind_ok (references M.symbols (drop 1 words)) (λ symbols. Ok (tape_row.word, with_line M (TapeLine symbols))) item is in
      let read = references_ok M.symbols (drop 1 words) one.0 one.1 in
      let count = read.1 in
      let left : length (drop 1 words) ≡ length words - 1 = length-drop 1 words in
      let few = leb-true (length M.tape + (length words - 1)) M.cells room in
      line_is (TapeLine one.0) (read.0, omega (arith, count, left, few)) (cc (one.2))

  end_line : end_row.fields M words ≡ Ok item → IsLine M kinds.End item
  end_line is = line_is EndLine tt (cc is)

-- a line that passes its checks fits
pub line_of : (kind : LineKind) (items : List MachineItem) (words : List (List ℕ)) (item : MachineItem) → (row_of kind).has_room items words ≡ true → (row_of kind).fields items words ≡ Ok item → IsLine (machine_of items) kind item
line_of kinds.Machine items words item room is = header_line (machine_of items) words item is
line_of kinds.State items words item room is = state_line (machine_of items) words item room is
line_of kinds.Symbol items words item room is = symbol_line (machine_of items) words item room is
line_of kinds.Rule items words item room is = rule_line (machine_of items) words item is
line_of kinds.Cells items words item room is = cells_line (machine_of items) words item is
line_of kinds.Rows items words item room is = rows_line (machine_of items) words item is
line_of kinds.Head items words item room is = head_line (machine_of items) words item is
line_of kinds.Tape items words item room is = tape_line (machine_of items) words item room is
line_of kinds.End items words item room is = end_line (machine_of items) words item is

-- the limits are told by the machine so far
pub room_by_machine : (kind : LineKind) (a b : List MachineItem) (words : List (List ℕ)) → machine_of a ≡ machine_of b → (row_of kind).has_room a words ≡ (row_of kind).has_room b words
room_by_machine kinds.State a b words same = ap (λ M. state_row.has_room M words) same
room_by_machine kinds.Symbol a b words same = ap (λ M. symbol_row.has_room M words) same
room_by_machine kinds.Tape a b words same = ap (λ M. tape_row.has_room M words) same
room_by_machine kind a b words same = refl

-- what may stand after what, by the keywords
pub follows_is : (kind : LineKind) (last : Option LineKind) (M : TuringMachine) → (row_of kind).may_follow (option_map (λ k. (word_of_kind k, M)) last) ≡ may_stand_after kind last
follows_is kinds.Machine None M = refl
follows_is kinds.Machine (Some kinds.Machine) M = refl
follows_is kinds.Machine (Some kinds.State) M = refl
follows_is kinds.Machine (Some kinds.Symbol) M = refl
follows_is kinds.Machine (Some kinds.Rule) M = refl
follows_is kinds.Machine (Some kinds.Cells) M = refl
follows_is kinds.Machine (Some kinds.Rows) M = refl
follows_is kinds.Machine (Some kinds.Head) M = refl
follows_is kinds.Machine (Some kinds.Tape) M = refl
follows_is kinds.Machine (Some kinds.End) M = refl
follows_is kinds.State None M = refl
follows_is kinds.State (Some kinds.Machine) M = refl
follows_is kinds.State (Some kinds.State) M = refl
follows_is kinds.State (Some kinds.Symbol) M = refl
follows_is kinds.State (Some kinds.Rule) M = refl
follows_is kinds.State (Some kinds.Cells) M = refl
follows_is kinds.State (Some kinds.Rows) M = refl
follows_is kinds.State (Some kinds.Head) M = refl
follows_is kinds.State (Some kinds.Tape) M = refl
follows_is kinds.State (Some kinds.End) M = refl
follows_is kinds.Symbol None M = refl
follows_is kinds.Symbol (Some kinds.Machine) M = refl
follows_is kinds.Symbol (Some kinds.State) M = refl
follows_is kinds.Symbol (Some kinds.Symbol) M = refl
follows_is kinds.Symbol (Some kinds.Rule) M = refl
follows_is kinds.Symbol (Some kinds.Cells) M = refl
follows_is kinds.Symbol (Some kinds.Rows) M = refl
follows_is kinds.Symbol (Some kinds.Head) M = refl
follows_is kinds.Symbol (Some kinds.Tape) M = refl
follows_is kinds.Symbol (Some kinds.End) M = refl
follows_is kinds.Rule None M = refl
follows_is kinds.Rule (Some kinds.Machine) M = refl
follows_is kinds.Rule (Some kinds.State) M = refl
follows_is kinds.Rule (Some kinds.Symbol) M = refl
follows_is kinds.Rule (Some kinds.Rule) M = refl
follows_is kinds.Rule (Some kinds.Cells) M = refl
follows_is kinds.Rule (Some kinds.Rows) M = refl
follows_is kinds.Rule (Some kinds.Head) M = refl
follows_is kinds.Rule (Some kinds.Tape) M = refl
follows_is kinds.Rule (Some kinds.End) M = refl
follows_is kinds.Cells None M = refl
follows_is kinds.Cells (Some kinds.Machine) M = refl
follows_is kinds.Cells (Some kinds.State) M = refl
follows_is kinds.Cells (Some kinds.Symbol) M = refl
follows_is kinds.Cells (Some kinds.Rule) M = refl
follows_is kinds.Cells (Some kinds.Cells) M = refl
follows_is kinds.Cells (Some kinds.Rows) M = refl
follows_is kinds.Cells (Some kinds.Head) M = refl
follows_is kinds.Cells (Some kinds.Tape) M = refl
follows_is kinds.Cells (Some kinds.End) M = refl
follows_is kinds.Rows None M = refl
follows_is kinds.Rows (Some kinds.Machine) M = refl
follows_is kinds.Rows (Some kinds.State) M = refl
follows_is kinds.Rows (Some kinds.Symbol) M = refl
follows_is kinds.Rows (Some kinds.Rule) M = refl
follows_is kinds.Rows (Some kinds.Cells) M = refl
follows_is kinds.Rows (Some kinds.Rows) M = refl
follows_is kinds.Rows (Some kinds.Head) M = refl
follows_is kinds.Rows (Some kinds.Tape) M = refl
follows_is kinds.Rows (Some kinds.End) M = refl
follows_is kinds.Head None M = refl
follows_is kinds.Head (Some kinds.Machine) M = refl
follows_is kinds.Head (Some kinds.State) M = refl
follows_is kinds.Head (Some kinds.Symbol) M = refl
follows_is kinds.Head (Some kinds.Rule) M = refl
follows_is kinds.Head (Some kinds.Cells) M = refl
follows_is kinds.Head (Some kinds.Rows) M = refl
follows_is kinds.Head (Some kinds.Head) M = refl
follows_is kinds.Head (Some kinds.Tape) M = refl
follows_is kinds.Head (Some kinds.End) M = refl
follows_is kinds.Tape None M = refl
follows_is kinds.Tape (Some kinds.Machine) M = refl
follows_is kinds.Tape (Some kinds.State) M = refl
follows_is kinds.Tape (Some kinds.Symbol) M = refl
follows_is kinds.Tape (Some kinds.Rule) M = refl
follows_is kinds.Tape (Some kinds.Cells) M = refl
follows_is kinds.Tape (Some kinds.Rows) M = refl
follows_is kinds.Tape (Some kinds.Head) M = refl
follows_is kinds.Tape (Some kinds.Tape) M = refl
follows_is kinds.Tape (Some kinds.End) M = refl
follows_is kinds.End None M = refl
follows_is kinds.End (Some kinds.Machine) M = refl
follows_is kinds.End (Some kinds.State) M = refl
follows_is kinds.End (Some kinds.Symbol) M = refl
follows_is kinds.End (Some kinds.Rule) M = refl
follows_is kinds.End (Some kinds.Cells) M = refl
follows_is kinds.End (Some kinds.Rows) M = refl
follows_is kinds.End (Some kinds.Head) M = refl
follows_is kinds.End (Some kinds.Tape) M = refl
follows_is kinds.End (Some kinds.End) M = refl
