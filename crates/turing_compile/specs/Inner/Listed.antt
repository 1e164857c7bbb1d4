-- The lists of a machine's pairs, kinds and labels, and the box of its system.
use Rattle.std.specs.Prelude.{ℕ, Bool, is_some, List}
use Rattle.atam.specs.declared.area.BoxArea.{BoxArea}
use Rattle.machine_text.specs.Machines.{TuringMachine, rule_among}
use Rattle.turing_compile.specs.declared.kind.Kind.{Kind}
use Rattle.turing_compile.specs.declared.kind.Label.{Label}
use Rattle.turing_compile.specs.Compiled.{pairs, ruled, tiles_of, compiled}

-- the pairs that have a rule
abbrev pub has_rule : TuringMachine → ℕ × ℕ → Bool
has_rule M pair = is_some (rule_among M.rules pair.0 pair.1)

abbrev pub ruled_pairs : TuringMachine → List (ℕ × ℕ)
ruled_pairs M = ruled M (pairs M)

abbrev pub kinds : TuringMachine → List Kind
kinds M = (tiles_of M).kinds

abbrev pub labels : TuringMachine → List Label
labels M = (tiles_of M).labels

abbrev pub area_of : TuringMachine → BoxArea
area_of M = (compiled M).area
