-- What the tables of kinds and labels have of one of them.
use Rattle.std.specs.Prelude.{ℕ, List}
use Rattle.machine_text.specs.Machines.{TuringMachine}
use Rattle.turing_compile.specs.declared.kind.Kind.{Kind}
use Rattle.turing_compile.specs.declared.kind.Label.{Label}
use Rattle.turing_compile.specs.Compiled.{kind_row, label_row}

-- its place in the list
abbrev pub kind_number : TuringMachine → Kind → ℕ
kind_number M k = (kind_row M k).0

abbrev pub label_number : TuringMachine → Label → ℕ
label_number M g = (label_row M g).0

-- its strength
abbrev pub strength : TuringMachine → Label → ℕ
strength M g = (label_row M g).1

-- its name
abbrev pub kind_name : TuringMachine → Kind → List ℕ
kind_name M k = (kind_row M k).1

abbrev pub label_name : TuringMachine → Label → List ℕ
label_name M g = (label_row M g).2
