-- What a shown cell turns upwards.
use Rattle.std.specs.Prelude.{Option, Some, None}
use Rattle.machine_text.specs.Machines.{TuringMachine}
use Rattle.turing_compile.specs.declared.kind.Label.{Label}
use Rattle.turing_compile.specs.declared.kind.Label.TheVariants.{Symbol}
use Rattle.turing_compile.specs.declared.kind.Shown.{Shown}
use Rattle.turing_compile.specs.Tiles.{top}

-- its label
abbrev pub upward : TuringMachine → Shown → Option Label
upward M cell = elim (cell.state) [ None ↦ Some (Symbol cell.symbol) | Some q ↦ top M q cell.symbol ]
