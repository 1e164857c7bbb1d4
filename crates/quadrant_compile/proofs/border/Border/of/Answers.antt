use Rattle.std.proofs.Common.{List, ℕ, Option, Some, sym, ap, ◌∙◌}
use Rattle.std.specs.Prelude.{find, bytes_eq}
use Rattle.tile_io.specs.Checks.{Keyword}
use Rattle.quadrant_compile.specs.declared.line_kind.LineKind.{LineKind}
use Rattle.quadrant_compile.specs.QuadrantText.{QuadrantItem, quadrant_table}
use Rattle.quadrant_compile.specs.Inner.Keywords.{row_of}
use Rattle.quadrant_compile.proofs.border.Border.of.Goals as goal

-- the keyword that a word is
abbrev named : List ℕ → Option (Keyword (List QuadrantItem) QuadrantItem)
named word = find (λ row. bytes_eq word row.word) quadrant_table.keywords

pub returns-in-Bottom : goal.returns-in-Bottom
returns-in-Bottom c =
    ap named (sym c.word.ensures) ∙ sym c.in_ok-kind.ensures
    ∙ ap (λ (k : LineKind). Some (row_of k)) c.in-Bottom.is

pub returns-in-Left : goal.returns-in-Left
returns-in-Left c =
    ap named (sym c.word.ensures) ∙ sym c.in_ok-kind.ensures
    ∙ ap (λ (k : LineKind). Some (row_of k)) c.in-Left.is
