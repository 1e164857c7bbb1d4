-- The tiles of a machine: the labels on the sides of each kind of tile.
use Rattle.std.specs.Prelude.{ℕ, ◌-◌, ◌==◌, if◌then◌else◌, is_some, Option, Some, None, option_and_then}
use Rattle.std.specs.List.{slice_index_or}
use Rattle.atam.specs.declared.site.Side.{Side}
use Rattle.design.specs.Sides.{by_side, label_ahead, label_behind}
use Rattle.machine_text.specs.declared.rule.Turn.{Turn}
use Rattle.machine_text.specs.declared.rule.Turn.TheVariants.{Left, Right, Stay}
use Rattle.machine_text.specs.Machines.{TuringMachine, rule_among}
use Rattle.turing_compile.specs.declared.kind.Kind.{Kind}
use Rattle.turing_compile.specs.declared.kind.Kind.TheVariants.{First, Action, FromLeft, FromRight, RightOf, LeftOf}
use Rattle.turing_compile.specs.declared.kind.Label.{Label}
use Rattle.turing_compile.specs.declared.kind.Label.TheVariants.{Symbol, Acting, Rightward, Leftward, HeadRightward, HeadLeftward, Joint}

-- the label h:Q:A of a state and a symbol, where they have a rule
abbrev pub top : TuringMachine → ℕ → ℕ → Option Label
top M q a = if is_some (rule_among M.rules q a) then Some (Acting q a) else None

-- the sides of a tile past the first row, which has labels to the east, south and west
abbrev pub later : Option Label → Label → Label → Label → Side → Option Label
later north east south west = by_side north (Some east) (Some south) (Some west)

-- the tile over a head in state q at symbol a, by a rule that writes b and goes to state p
abbrev pub action_side : TuringMachine → ℕ → ℕ → ℕ → ℕ → Turn → Side → Option Label
action_side M q a p b Right = later (Some (Symbol b)) (HeadRightward p) (Acting q a) Leftward
action_side M q a p b Left = later (Some (Symbol b)) Rightward (Acting q a) (HeadLeftward p)
action_side M q a p b Stay = later (top M p b) Rightward (Acting q a) Leftward

-- The table of the sides of each kind: north, east, south, west. The first row turns the tape and
-- the head upwards; an action has labels where its pair has a rule.
abbrev pub side : TuringMachine → Kind → Side → Option Label
side M (First i) d =
    let a = slice_index_or M.tape i 0 in
    let north = if i == M.head then top M 0 a else Some (Symbol a) in
    by_side north (label_ahead Joint (M.cells - 1) i) None (label_behind Joint i) d
side M (Action q a) d =
    option_and_then (λ x. action_side M q a x.state x.symbol x.turn d) (rule_among M.rules q a)
side M (FromLeft q a) d = later (top M q a) Rightward (Symbol a) (HeadRightward q) d
side M (FromRight q a) d = later (top M q a) (HeadLeftward q) (Symbol a) Leftward d
side M (RightOf a) d = later (Some (Symbol a)) Rightward (Symbol a) Rightward d
side M (LeftOf a) d = later (Some (Symbol a)) Leftward (Symbol a) Leftward d
