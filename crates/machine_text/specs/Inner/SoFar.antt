-- What the reader of a machine text holds of the lines that it took.
use Rattle.std.specs.Prelude.{◌≡◌, ◌≢◌, ℕ, ◌<◌, ◌≤◌, IsTrue, false, List, [], length, option_map, Option, Some, None, All, AllPairs}
use Rattle.tile_io.specs.Checks.{last_of}
use Rattle.machine_text.specs.declared.limits.TheConstants.{MOST_STATES, MOST_SYMBOLS, MOST_CELLS, MOST_ROWS}
use Rattle.machine_text.specs.declared.kind.LineKind.{LineKind}
use Rattle.machine_text.specs.declared.kind.LineKind.TheVariants as kinds
use Rattle.machine_text.specs.declared.parts.MachineParts.{MachineParts}
use Rattle.machine_text.specs.Machines.{TuringMachine, is_short_name, IsTransition, is_for}
use Rattle.machine_text.specs.MachineText.{MachineItem, machine_of}
use Rattle.machine_text.specs.Inner.Kinds.{word_of_kind}

-- the machine that parts make
abbrev pub machine_in : MachineParts → TuringMachine
machine_in p = record {
  states = p.states;
  symbols = p.symbols;
  rules = p.rules;
  cells = p.cells;
  rows = p.rows;
  head = p.head;
  tape = p.tape.items;
}

-- names are short, and differ
pub record AreNames (names : List (List ℕ)) : Type 0 where
  pub short : All (λ name. IsTrue (is_short_name name)) names
  pub distinct : AllPairs (λ a b. a ≢ b) names

-- there are no more names than may be
pub record HasFewNames (M : TuringMachine) : Type 0 where
  pub states : length M.states ≤ MOST_STATES
  pub symbols : length M.symbols ≤ MOST_SYMBOLS

-- what is so after each line
pub record IsDraft (M : TuringMachine) : Type 0 where
  pub few : HasFewNames M
  pub state_names : AreNames M.states
  pub symbol_names : AreNames M.symbols
  pub transitions : All (IsTransition (length M.states) (length M.symbols)) M.rules
  pub distinct_rules : AllPairs (λ t u. is_for t.state t.symbol u ≡ false) M.rules
  pub cell_count : M.cells ≤ MOST_CELLS
  pub row_count : M.rows ≤ MOST_ROWS
  pub tape_symbols : All (λ a. a < length M.symbols) M.tape

-- there are states and symbols, and no tape yet
pub record HasAlphabet (M : TuringMachine) : Type 0 where
  pub some_state : 1 ≤ length M.states
  pub some_symbol : 1 ≤ length M.symbols
  pub no_tape : M.tape ≡ []

-- there is everything, and the tape may grow
pub record HasAll (M : TuringMachine) : Type 0 where
  pub some_state : 1 ≤ length M.states
  pub some_symbol : 1 ≤ length M.symbols
  pub some_cell : 1 ≤ M.cells
  pub some_row : 1 ≤ M.rows
  pub head_cell : M.head < M.cells
  pub tape_length : length M.tape ≤ M.cells

-- what is so after a line of this keyword
abbrev pub HasCome : Option LineKind → TuringMachine → Type 0
HasCome None M = M.tape ≡ []
HasCome (Some kinds.Machine) M = M.tape ≡ []
HasCome (Some kinds.State) M = (1 ≤ length M.states) × (M.tape ≡ [])
HasCome (Some kinds.Symbol) M = HasAlphabet M
HasCome (Some kinds.Rule) M = HasAlphabet M
HasCome (Some kinds.Cells) M = HasAlphabet M × (1 ≤ M.cells)
HasCome (Some kinds.Rows) M = HasAlphabet M × (1 ≤ M.cells) × (1 ≤ M.rows)
HasCome (Some kinds.Head) M = HasAll M
HasCome (Some kinds.Tape) M = HasAll M
HasCome (Some kinds.End) M = HasAll M

-- the machine of the lines, and the keyword of the last line
pub record HoldsLines (M : TuringMachine) (last : Option LineKind) (items : List MachineItem) : Type 0 where
  pub machine : M ≡ machine_of items
  pub last_item : last_of items ≡ option_map (λ kind. (word_of_kind kind, M)) last
  pub draft : IsDraft M
  pub come : HasCome last M
