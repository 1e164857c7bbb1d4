-- The kinds and the labels that a machine has.
use Rattle.std.specs.Prelude.{◌≡◌, ◌<◌, ◌≤◌, ◌-◌, true, is_some, length}
use Rattle.machine_text.specs.Machines.{TuringMachine, rule_among}
use Rattle.turing_compile.specs.declared.kind.Kind.{Kind}
use Rattle.turing_compile.specs.declared.kind.Kind.TheVariants.{First, Action, FromLeft, FromRight, RightOf, LeftOf}
use Rattle.turing_compile.specs.declared.kind.Label.{Label}
use Rattle.turing_compile.specs.declared.kind.Label.TheVariants.{Symbol, Acting, Rightward, Leftward, HeadRightward, HeadLeftward, Joint}

abbrev pub IsKind : TuringMachine → Kind → Type 0
IsKind M (First i) = i < M.cells
IsKind M (Action q a) = is_some (rule_among M.rules q a) ≡ true
IsKind M (FromLeft q a) = (q < length M.states) × (a < length M.symbols)
IsKind M (FromRight q a) = (q < length M.states) × (a < length M.symbols)
IsKind M (RightOf a) = a < length M.symbols
IsKind M (LeftOf a) = a < length M.symbols

abbrev pub IsLabel : TuringMachine → Label → Type 0
IsLabel M (Symbol a) = a < length M.symbols
IsLabel M (Acting q a) = is_some (rule_among M.rules q a) ≡ true
IsLabel M Rightward = Unit {0}
IsLabel M Leftward = Unit {0}
IsLabel M (HeadRightward q) = q < length M.states
IsLabel M (HeadLeftward q) = q < length M.states
IsLabel M (Joint i) = (1 ≤ i) × (i ≤ M.cells - 1)
