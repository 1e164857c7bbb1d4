-- The keywords of a quadrant text, as the code has them.
use Rattle.std.specs.Prelude.{ℕ, Bool, true, false, List, Option, Some, None}
use Rattle.std.specs.List.{slice_index_or}
use Rattle.tile_io.specs.Checks.{Keyword, told_by, no_row}
use Rattle.quadrant_compile.specs.declared.line_kind.LineKind.{LineKind}
use Rattle.quadrant_compile.specs.declared.line_kind.LineKind.TheVariants as kinds
use Rattle.quadrant_compile.specs.Quadrants.{RuleQuadrant}
use Rattle.quadrant_compile.specs.QuadrantText.{QuadrantItem, quadrant_of, quadrant_rows}

-- the rows by their words
abbrev pub quadrant_row : Keyword RuleQuadrant QuadrantItem
quadrant_row = slice_index_or quadrant_rows 0 no_row

abbrev pub symbol_row : Keyword RuleQuadrant QuadrantItem
symbol_row = slice_index_or quadrant_rows 1 no_row

abbrev pub rule_row : Keyword RuleQuadrant QuadrantItem
rule_row = slice_index_or quadrant_rows 2 no_row

abbrev pub size_row : Keyword RuleQuadrant QuadrantItem
size_row = slice_index_or quadrant_rows 3 no_row

abbrev pub bottom_row : Keyword RuleQuadrant QuadrantItem
bottom_row = slice_index_or quadrant_rows 4 no_row

abbrev pub left_row : Keyword RuleQuadrant QuadrantItem
left_row = slice_index_or quadrant_rows 5 no_row

abbrev pub end_row : Keyword RuleQuadrant QuadrantItem
end_row = slice_index_or quadrant_rows 6 no_row

-- the row of a keyword in the table
abbrev pub row_of : LineKind → Keyword (List QuadrantItem) QuadrantItem
row_of kinds.Quadrant = told_by quadrant_of quadrant_row
row_of kinds.Symbol = told_by quadrant_of symbol_row
row_of kinds.Rule = told_by quadrant_of rule_row
row_of kinds.Size = told_by quadrant_of size_row
row_of kinds.Bottom = told_by quadrant_of bottom_row
row_of kinds.Left = told_by quadrant_of left_row
row_of kinds.End = told_by quadrant_of end_row

-- the word of a keyword
abbrev pub word_of_kind : LineKind → List ℕ
word_of_kind kind = (row_of kind).word

-- whether a keyword may stand right after a line of another one, or first
abbrev pub may_stand_after : LineKind → Option LineKind → Bool
may_stand_after kinds.Quadrant None = true
may_stand_after kinds.Symbol (Some kinds.Quadrant) = true
may_stand_after kinds.Symbol (Some kinds.Symbol) = true
may_stand_after kinds.Rule (Some kinds.Symbol) = true
may_stand_after kinds.Rule (Some kinds.Rule) = true
may_stand_after kinds.Size (Some kinds.Symbol) = true
may_stand_after kinds.Size (Some kinds.Rule) = true
may_stand_after kinds.Bottom (Some kinds.Size) = true
may_stand_after kinds.Bottom (Some kinds.Bottom) = true
may_stand_after kinds.Left (Some kinds.Size) = true
may_stand_after kinds.Left (Some kinds.Bottom) = true
may_stand_after kinds.Left (Some kinds.Left) = true
may_stand_after kinds.End (Some kinds.Size) = true
may_stand_after kinds.End (Some kinds.Bottom) = true
may_stand_after kinds.End (Some kinds.Left) = true
may_stand_after kind last = false

-- whether a line of this keyword ends the text
abbrev pub is_last : LineKind → Bool
is_last kinds.End = true
is_last kind = false
