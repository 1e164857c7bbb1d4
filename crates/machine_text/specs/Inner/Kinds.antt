-- The keywords of a machine text, as the code has them.
use Rattle.std.specs.Prelude.{ℕ, Bool, true, false, List, Option, Some, None}
use Rattle.std.specs.List.{slice_index_or}
use Rattle.tile_io.specs.Checks.{Keyword, told_by, no_row}
use Rattle.machine_text.specs.declared.kind.LineKind.{LineKind}
use Rattle.machine_text.specs.declared.kind.LineKind.TheVariants as kinds
use Rattle.machine_text.specs.Machines.{TuringMachine}
use Rattle.machine_text.specs.MachineText.{MachineItem, machine_of, machine_rows}

-- the rows by their words
abbrev pub machine_row : Keyword TuringMachine MachineItem
machine_row = slice_index_or machine_rows 0 no_row

abbrev pub state_row : Keyword TuringMachine MachineItem
state_row = slice_index_or machine_rows 1 no_row

abbrev pub symbol_row : Keyword TuringMachine MachineItem
symbol_row = slice_index_or machine_rows 2 no_row

abbrev pub rule_row : Keyword TuringMachine MachineItem
rule_row = slice_index_or machine_rows 3 no_row

abbrev pub cells_row : Keyword TuringMachine MachineItem
cells_row = slice_index_or machine_rows 4 no_row

abbrev pub rows_row : Keyword TuringMachine MachineItem
rows_row = slice_index_or machine_rows 5 no_row

abbrev pub head_row : Keyword TuringMachine MachineItem
head_row = slice_index_or machine_rows 6 no_row

abbrev pub tape_row : Keyword TuringMachine MachineItem
tape_row = slice_index_or machine_rows 7 no_row

abbrev pub end_row : Keyword TuringMachine MachineItem
end_row = slice_index_or machine_rows 8 no_row

-- the row of a keyword in the table
abbrev pub row_of : LineKind → Keyword (List MachineItem) MachineItem
row_of kinds.Machine = told_by machine_of machine_row
row_of kinds.State = told_by machine_of state_row
row_of kinds.Symbol = told_by machine_of symbol_row
row_of kinds.Rule = told_by machine_of rule_row
row_of kinds.Cells = told_by machine_of cells_row
row_of kinds.Rows = told_by machine_of rows_row
row_of kinds.Head = told_by machine_of head_row
row_of kinds.Tape = told_by machine_of tape_row
row_of kinds.End = told_by machine_of end_row

-- the word of a keyword
abbrev pub word_of_kind : LineKind → List ℕ
word_of_kind kind = (row_of kind).word

-- whether a keyword may stand right after a line of another one, or first
abbrev pub may_stand_after : LineKind → Option LineKind → Bool
may_stand_after kinds.Machine None = true
may_stand_after kinds.State (Some kinds.Machine) = true
may_stand_after kinds.State (Some kinds.State) = true
may_stand_after kinds.Symbol (Some kinds.State) = true
may_stand_after kinds.Symbol (Some kinds.Symbol) = true
may_stand_after kinds.Rule (Some kinds.Symbol) = true
may_stand_after kinds.Rule (Some kinds.Rule) = true
may_stand_after kinds.Cells (Some kinds.Symbol) = true
may_stand_after kinds.Cells (Some kinds.Rule) = true
may_stand_after kinds.Rows (Some kinds.Cells) = true
may_stand_after kinds.Head (Some kinds.Rows) = true
may_stand_after kinds.Tape (Some kinds.Head) = true
may_stand_after kinds.Tape (Some kinds.Tape) = true
may_stand_after kinds.End (Some kinds.Head) = true
may_stand_after kinds.End (Some kinds.Tape) = true
may_stand_after kind last = false

-- whether a line of this keyword ends the text
abbrev pub is_last : LineKind → Bool
is_last kinds.End = true
is_last kind = false
