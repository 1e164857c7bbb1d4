-- What the tables of kinds and of labels have of one.
use Rattle.std.specs.Prelude.{ℕ, List}
use Rattle.counter_compile.specs.declared.kind.Kind.{Kind}
use Rattle.counter_compile.specs.declared.label.Label.{Label}
use Rattle.counter_compile.specs.Tiles.{kind_row, label_row}

-- the places in the lists of kinds and of labels
abbrev pub kind_number : ℕ → Kind → ℕ
kind_number last k = (kind_row last k).0

abbrev pub label_number : Label → ℕ
label_number g = (label_row g).0

abbrev pub strength : Label → ℕ
strength g = (label_row g).1

-- and the names
abbrev pub kind_name : ℕ → Kind → List ℕ
kind_name last k = (kind_row last k).1

abbrev pub label_name : Label → List ℕ
label_name g = (label_row g).2
