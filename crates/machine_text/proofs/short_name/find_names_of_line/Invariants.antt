use Rattle.std.proofs.Common.{◌≡◌, drop, length}
use Rattle.tile_io.specs.Lines.{words_of}
use Rattle.machine_text.specs.MachineText.{references}
use Rattle.machine_text.proofs.References.{with_front}
use Rattle.machine_text.proofs.short_name.find_names_of_line.Given as goal

-- the numbers so far, and those of the words that are left
abbrev pub invariant-loop-word : goal.invariant-loop-word
invariant-loop-word l = with_front l.numbers.items (references l.names (words_of l.rest)) ≡ references l.names (drop 1 (words_of l.line))

abbrev pub decreases-loop-word : goal.decreases-loop-word
decreases-loop-word l = length (words_of l.rest)
