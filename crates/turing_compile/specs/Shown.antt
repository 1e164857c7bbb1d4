-- What the tiles of a machine show of its run.
use Rattle.std.specs.Prelude.{ℕ, ◌==◌, if◌then◌else◌, Option, Some, None, option_map}
use Rattle.machine_text.specs.declared.rule.Turn.{Turn}
use Rattle.machine_text.specs.declared.rule.Turn.TheVariants.{Left, Right, Stay}
use Rattle.machine_text.specs.declared.config.Head.{Head}
use Rattle.machine_text.specs.Machines.{TuringMachine, Configuration, rule_among, first, symbol_at}
use Rattle.turing_compile.specs.declared.kind.Kind.{Kind}
use Rattle.turing_compile.specs.declared.kind.Kind.TheVariants.{First, Action, FromLeft, FromRight, RightOf, LeftOf}
use Rattle.turing_compile.specs.declared.kind.Shown.{Shown}

-- the state of a head in this cell
abbrev pub state_in : Option Head → ℕ → Option ℕ
state_in None i = None
state_in (Some head) i = if i == head.cell then Some head.state else None

-- a cell of a configuration, as it is to be shown
abbrev pub cell_of : Configuration → ℕ → Shown
cell_of c i = record { symbol = symbol_at c i; state = state_in c.head i }

-- a cell with this symbol, without the head and with it in this state
abbrev pub plain : ℕ → Shown
plain a = record { symbol = a; state = None }

abbrev pub headed : ℕ → ℕ → Shown
headed q a = record { symbol = a; state = Some q }

-- over a head that acts, by a rule that writes b and goes to state p
abbrev pub action_shown : ℕ → ℕ → Turn → Shown
action_shown p b Right = plain b
action_shown p b Left = plain b
action_shown p b Stay = headed p b

-- what each kind shows; an action shows a cell where its pair has a rule
abbrev pub shown : TuringMachine → Kind → Option Shown
shown M (First i) = Some (cell_of (first M) i)
shown M (Action q a) =
    option_map (λ x. action_shown x.state x.symbol x.turn) (rule_among M.rules q a)
shown M (FromLeft q a) = Some (headed q a)
shown M (FromRight q a) = Some (headed q a)
shown M (RightOf a) = Some (plain a)
shown M (LeftOf a) = Some (plain a)
