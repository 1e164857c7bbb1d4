-- The text of a machine: what each kept line is, which checks it has to pass, and the machine that the lines describe.
use Rattle.std.specs.Prelude.{◌≡◌, ℕ, ◌+◌, ◌-◌, ◌==◌, true, is_none, is_some, not, nat_le, nat_lt, if◌then◌else◌, List, [], ◌∷◌, ◌++◌, length, drop, map, codes, bytes_eq, option_map, Result, Ok, Err}
use Rattle.std.specs.Option.{unwrap_or}
use Rattle.tile_io.specs.declared.fault.Cause.{Cause}
use Rattle.tile_io.specs.declared.fault.Cause.TheVariants.{NoHeader, BadName, DoubleName}
use Rattle.tile_io.specs.declared.mark.Mark.{Mark}
use Rattle.tile_io.specs.Formats.{Format, Reads}
use Rattle.tile_io.specs.Checks.{◌>>=◌, require, field, count_in, declared, referred, behind, last_of, Keyword, told_by, Table, table_to_end, table_format, row}
use Rattle.machine_text.specs.declared.rule.Turn.{Turn}
use Rattle.machine_text.specs.declared.rule.Turn.TheVariants.{Left, Right, Stay}
use Rattle.machine_text.specs.declared.rule.Transition.{Transition}
use Rattle.machine_text.specs.Machines.{TuringMachine, is_short_name, rule_among}

-- what a kept line is: its keyword, and the machine of the lines up to it
abbrev pub MachineItem : Type 0
MachineItem = List ℕ × TuringMachine

abbrev pub word_of : MachineItem → List ℕ
word_of item = item.0

-- the machine of lines, which has nothing before the first
unfoldable pub machine_of : List MachineItem → TuringMachine
machine_of items = unwrap_or (option_map (λ item. item.1) (last_of items))
    (record { states = []; symbols = []; rules = []; cells = 0; rows = 0; head = 0; tape = [] })

-- the turn that a word is
abbrev pub turn_field : List ℕ → Result Turn Cause
turn_field word =
    if bytes_eq word (codes "L") then Ok Left
    else if bytes_eq word (codes "R") then Ok Right
    else if bytes_eq word (codes "S") then Ok Stay
    else Err BadName

-- names that refer, from left to right
unfoldable pub references : List (List ℕ) → List (List ℕ) → Result (List ℕ) Cause
references names [] = Ok []
references names (word ∷ words) = do
  first ← referred is_short_name names word
  others ← references names words
  Ok (first ∷ others)

-- the transition of a `rule` line; a second one for the same state and symbol is a double one
unfoldable pub transition_in : TuringMachine → List (List ℕ) → Result Transition Cause
transition_in M words = do
  state ← referred is_short_name M.states (field words 1)
  symbol ← referred is_short_name M.symbols (field words 2)
  _ ← require (not (is_some (rule_among M.rules state symbol))) DoubleName
  next_state ← referred is_short_name M.states (field words 3)
  next_symbol ← referred is_short_name M.symbols (field words 4)
  turn ← turn_field (field words 5)
  Ok (record { state = state; symbol = symbol; rule = record { state = next_state; symbol = next_symbol; turn = turn } })

-- The table of keywords. A row has the word, how many words its line has, behind which lines it may
-- stand, the limit of its kind and its fields, both told by the machine of the lines before.
abbrev pub machine_rows : List (Keyword TuringMachine MachineItem)
machine_rows =
    row (codes "machine") (λ n. n == 2) is_none (λ M words. true) (λ M words. do
      _ ← require (bytes_eq (field words 1) (codes "1")) NoHeader
      Ok (codes "machine", M))
    ∷ row (codes "state") (λ n. n == 2) (behind word_of (codes "machine" ∷ codes "state" ∷ []))
    (λ M words. nat_lt (length M.states) 64) (λ M words. do
      name ← declared is_short_name M.states (field words 1)
      Ok (codes "state", record M { states = M.states ++ name ∷ [] }))
    ∷ row (codes "symbol") (λ n. n == 2) (behind word_of (codes "state" ∷ codes "symbol" ∷ []))
    (λ M words. nat_lt (length M.symbols) 64) (λ M words. do
      name ← declared is_short_name M.symbols (field words 1)
      Ok (codes "symbol", record M { symbols = M.symbols ++ name ∷ [] }))
    ∷ row (codes "rule") (λ n. n == 6) (behind word_of (codes "symbol" ∷ codes "rule" ∷ []))
    (λ M words. true) (λ M words. do
      t ← transition_in M words
      Ok (codes "rule", record M { rules = M.rules ++ t ∷ [] }))
    ∷ row (codes "cells") (λ n. n == 2) (behind word_of (codes "symbol" ∷ codes "rule" ∷ []))
    (λ M words. true) (λ M words. do
      n ← count_in 1 512 (field words 1)
      Ok (codes "cells", record M { cells = n }))
    ∷ row (codes "rows") (λ n. n == 2) (behind word_of (codes "cells" ∷ []))
    (λ M words. true) (λ M words. do
      n ← count_in 1 1024 (field words 1)
      Ok (codes "rows", record M { rows = n }))
    ∷ row (codes "head") (λ n. n == 2) (behind word_of (codes "rows" ∷ []))
    (λ M words. true) (λ M words. do
      n ← count_in 0 (M.cells - 1) (field words 1)
      Ok (codes "head", record M { head = n }))
    -- all tape lines together have no more symbols than there are cells
    ∷ row (codes "tape") (nat_le 2) (behind word_of (codes "head" ∷ codes "tape" ∷ []))
    (λ M words. nat_le (length M.tape + (length words - 1)) M.cells) (λ M words. do
      symbols ← references M.symbols (drop 1 words)
      Ok (codes "tape", record M { tape = M.tape ++ symbols }))
    ∷ row (codes "end") (λ n. n == 1) (behind word_of (codes "head" ∷ codes "tape" ∷ []))
    (λ M words. true) (λ M words. Ok (codes "end", M))
    ∷ []

-- only the end line completes a text
unfoldable pub machine_table : Table MachineItem
machine_table = table_to_end word_of (map (told_by machine_of) machine_rows)

-- the format of machine texts
abbrev pub machine_format : Format MachineItem
machine_format = table_format machine_table

-- the text from a mark on is a version-1 text of this machine, up to the mark after its end line
pub record ReadsMachine (text : List ℕ) (from : Mark) (M : TuringMachine) (to : Mark) : Type 0 where
  pub items : List MachineItem
  pub reads : Reads machine_format text from items to
  pub machine : M ≡ machine_of items
