-- A Turing machine on a row of cells, its configurations and its run.
use Rattle.std.specs.Prelude.{◌≡◌, ◌≢◌, ℕ, zero, suc, ◌-◌, ◌<◌, ◌≤◌, ◌==◌, Bool, IsTrue, false, ◌&&◌, ◌||◌, nat_le, nat_lt, if◌then◌else◌, List, ◌++◌, length, replicate, slice_index, slice_set, find, Option, Some, None, IfSome, All, AllPairs, option_map, option_and_then}
use Rattle.std.specs.List.{list_all}
use Rattle.machine_text.specs.declared.rule.Turn.{Turn}
use Rattle.machine_text.specs.declared.rule.Turn.TheVariants.{Left, Right, Stay}
use Rattle.machine_text.specs.declared.rule.Rule.{Rule}
use Rattle.machine_text.specs.declared.rule.Transition.{Transition}
use Rattle.machine_text.specs.declared.config.Head.{Head}

-- A machine. Its states and symbols are numbered in the order of their names; state 0 is the start state, and symbol 0 the
-- blank. The tape has the symbols of the first cells; the cells behind them are blank. As many rows of the run are to be shown.
pub record TuringMachine : Type 0 where
  pub states : List (List ℕ)
  pub symbols : List (List ℕ)
  pub rules : List Transition
  pub cells : ℕ
  pub rows : ℕ
  pub head : ℕ
  pub tape : List ℕ

-- a configuration: the symbol of each cell, and the head, if it hasn't left the cells
pub record Configuration : Type 0 where
  pub symbols : List ℕ
  pub head : Option Head

-- the symbol of a cell
abbrev pub symbol_at : Configuration → ℕ → ℕ
symbol_at c cell = slice_index c.symbols cell

-- whether a transition is for this state and this symbol
abbrev pub is_for : ℕ → ℕ → Transition → Bool
is_for state symbol t = t.state == state && t.symbol == symbol

-- the rule for a state and a symbol, among these
abbrev pub rule_among : List Transition → ℕ → ℕ → Option Rule
rule_among rules state symbol = option_map (λ t. t.rule) (find (is_for state symbol) rules)

-- the machine's rule for a state and a symbol, if it has one
abbrev pub rule_of : TuringMachine → ℕ → ℕ → Option Rule
rule_of M state symbol = rule_among M.rules state symbol

abbrev pub last_cell : TuringMachine → ℕ
last_cell M = M.cells - 1

-- the first configuration: the tape, then blanks, and the head in the start state
abbrev pub first : TuringMachine → Configuration
first M = record { symbols = M.tape ++ replicate (M.cells - length M.tape) 0; head = Some (record { cell = M.head; state = 0 }) }

-- the head in a state, moved from a cell; none where it leaves the cells
abbrev pub moved : ℕ → Turn → ℕ → ℕ → Option Head
moved last Stay cell state = Some (record { cell = cell; state = state })
moved last Right cell state = if nat_lt cell last then Some (record { cell = suc cell; state = state }) else None
moved last Left zero state = None
moved last Left (suc cell) state = Some (record { cell = cell; state = state })

-- the configuration after a rule: the head's cell has the rule's symbol, and the head moves, in the rule's state
abbrev pub acted : ℕ → Configuration → Head → Rule → Configuration
acted last c head rule = record { symbols = slice_set c.symbols head.cell rule.symbol; head = moved last rule.turn head.cell rule.state }

-- the rule for the head's state and the symbol of its cell, if there is one
abbrev pub action : TuringMachine → Configuration → Head → Option Rule
action M c head = rule_of M head.state (symbol_at c head.cell)

-- one step: the next configuration, if there is a head and a rule for it
abbrev pub next : TuringMachine → Configuration → Option Configuration
next M c = option_and_then (λ head. option_map (acted (last_cell M) c head) (action M c head)) c.head

-- the configuration after so many steps; none where the machine stops before
abbrev pub after : TuringMachine → ℕ → Option Configuration
after M zero = Some (first M)
after M (suc steps) = option_and_then (next M) (after M steps)

-- a letter, a digit or `_`
abbrev pub is_short_name_byte : ℕ → Bool
is_short_name_byte b = (nat_le 65 b && nat_le b 90) || (nat_le 97 b && nat_le b 122) || (nat_le 48 b && nat_le b 57) || b == 95

-- 1 to 8 of these bytes
unfoldable pub is_short_name : List ℕ → Bool
is_short_name bs = nat_le 1 (length bs) && nat_le (length bs) 8 && list_all is_short_name_byte bs

-- a number from one to another
abbrev pub IsIn : ℕ → ℕ → ℕ → Type 0
IsIn least most n = (least ≤ n) × (n ≤ most)

-- 1 to 64 names, which are short and differ
pub record IsAlphabet (names : List (List ℕ)) : Type 0 where
  pub count : IsIn 1 64 (length names)
  pub short : All (λ name. IsTrue (is_short_name name)) names
  pub distinct : AllPairs (λ a b. a ≢ b) names

-- the states and symbols of a transition are among so many
pub record IsTransition (states symbols : ℕ) (t : Transition) : Type 0 where
  pub state : t.state < states
  pub symbol : t.symbol < symbols
  pub next_state : t.rule.state < states
  pub next_symbol : t.rule.symbol < symbols

-- numbers are in range, and no two rules are for the same state and symbol
pub record IsMachine (M : TuringMachine) : Type 0 where
  pub states : IsAlphabet M.states
  pub symbols : IsAlphabet M.symbols
  pub transitions : All (IsTransition (length M.states) (length M.symbols)) M.rules
  pub distinct_rules : AllPairs (λ t u. is_for t.state t.symbol u ≡ false) M.rules
  pub cells : IsIn 1 512 M.cells
  pub rows : IsIn 1 1024 M.rows
  pub head_cell : M.head < M.cells
  pub tape_length : length M.tape ≤ M.cells
  pub tape_symbols : All (λ a. a < length M.symbols) M.tape

-- a configuration of the machine: it has the machine's cells, and its symbols, its head's cell and its state are the machine's
pub record IsConfigOf (M : TuringMachine) (c : Configuration) : Type 0 where
  pub cells : length c.symbols ≡ M.cells
  pub symbols : All (λ a. a < length M.symbols) c.symbols
  pub head : IfSome c.head (λ head. (head.cell < M.cells) × (head.state < length M.states))
