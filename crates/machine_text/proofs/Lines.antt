-- What a kept line says, and what its checks say of it.
use Rattle.std.proofs.Common.{◌≡◌, ◌<◌, ◌≤◌, ◌+◌, ◌-◌, ℕ, false, List, [], ◌∷◌, ◌++◌, length, None, All}
use Rattle.std.specs.Prelude.{IsTrue, bytes_eq}
use Rattle.std.specs.List.{list_any}
use Rattle.machine_text.specs.declared.rule.Transition.{Transition}
use Rattle.machine_text.specs.declared.kind.LineKind.{LineKind}
use Rattle.machine_text.specs.declared.kind.LineKind.TheVariants as kinds
use Rattle.machine_text.specs.Machines.{TuringMachine, IsTransition, is_short_name, rule_among}
use Rattle.machine_text.specs.MachineText.{MachineItem}
use Rattle.machine_text.specs.Inner.Kinds.{word_of_kind}

pub data MachineLine : Type 0 where
  Header : MachineLine
  StateLine : (name : List ℕ) → MachineLine
  SymbolLine : (name : List ℕ) → MachineLine
  RuleLine : (transition : Transition) → MachineLine
  CellsLine : (cells : ℕ) → MachineLine
  RowsLine : (rows : ℕ) → MachineLine
  HeadLine : (cell : ℕ) → MachineLine
  TapeLine : (symbols : List ℕ) → MachineLine
  EndLine : MachineLine

-- the keyword of a line
abbrev pub kind_of : MachineLine → LineKind
kind_of Header = kinds.Machine
kind_of (StateLine name) = kinds.State
kind_of (SymbolLine name) = kinds.Symbol
kind_of (RuleLine transition) = kinds.Rule
kind_of (CellsLine cells) = kinds.Cells
kind_of (RowsLine rows) = kinds.Rows
kind_of (HeadLine cell) = kinds.Head
kind_of (TapeLine symbols) = kinds.Tape
kind_of EndLine = kinds.End

-- a machine with a line more
abbrev pub with_line : TuringMachine → MachineLine → TuringMachine
with_line M Header = M
with_line M (StateLine name) = record M { states = M.states ++ name ∷ [] }
with_line M (SymbolLine name) = record M { symbols = M.symbols ++ name ∷ [] }
with_line M (RuleLine t) = record M { rules = M.rules ++ t ∷ [] }
with_line M (CellsLine n) = record M { cells = n }
with_line M (RowsLine n) = record M { rows = n }
with_line M (HeadLine n) = record M { head = n }
with_line M (TapeLine symbols) = record M { tape = M.tape ++ symbols }
with_line M EndLine = M

-- what a line's checks say of it, after a machine so far
abbrev pub IsFit : TuringMachine → MachineLine → Type 0
IsFit M Header = Unit {0}
IsFit M (StateLine name) = (length M.states < 64) × IsTrue (is_short_name name) × (list_any (bytes_eq name) M.states ≡ false)
IsFit M (SymbolLine name) = (length M.symbols < 64) × IsTrue (is_short_name name) × (list_any (bytes_eq name) M.symbols ≡ false)
IsFit M (RuleLine t) = IsTransition (length M.states) (length M.symbols) t × (rule_among M.rules t.state t.symbol ≡ None)
IsFit M (CellsLine n) = (1 ≤ n) × (n ≤ 512)
IsFit M (RowsLine n) = (1 ≤ n) × (n ≤ 1024)
IsFit M (HeadLine n) = n ≤ M.cells - 1
IsFit M (TapeLine symbols) = All (λ a. a < length M.symbols) symbols × (length M.tape + length symbols ≤ M.cells)
IsFit M EndLine = Unit {0}

-- an item is of such a line, of this keyword
pub record IsLine (M : TuringMachine) (kind : LineKind) (item : MachineItem) : Type 0 where
  pub line : MachineLine
  pub keyword : kind_of line ≡ kind
  pub fit : IsFit M line
  pub is : (word_of_kind kind, with_line M line) ≡ item
