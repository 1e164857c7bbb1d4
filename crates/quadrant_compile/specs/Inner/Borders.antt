-- The lines of the borders.
use Rattle.std.specs.Prelude.{◌≡◌, ℕ, Bool, true, nat_le, List, length, Option}
use Rattle.quadrant_compile.specs.declared.border.Border.{Border}
use Rattle.quadrant_compile.specs.declared.border.Border.TheVariants as borders
use Rattle.quadrant_compile.specs.declared.line_kind.LineKind.{LineKind}
use Rattle.quadrant_compile.specs.declared.line_kind.LineKind.TheVariants as kinds
use Rattle.quadrant_compile.specs.Quadrants.{RuleQuadrant}
use Rattle.quadrant_compile.specs.Inner.Keywords.{may_stand_after, bottom_row, left_row}

-- the keyword of a border's lines
abbrev pub border_kind : Border → LineKind
border_kind borders.Bottom = kinds.Bottom
border_kind borders.Left = kinds.Left

-- whether a border has room for the symbols of a line
abbrev pub border_room : Border → RuleQuadrant → List (List ℕ) → Bool
border_room borders.Bottom q words = bottom_row.has_room q words
border_room borders.Left q words = left_row.has_room q words

-- a line of a border passes the checks before its fields
pub record HasPlace (border : Border) (q : RuleQuadrant) (last : Option LineKind) (words : List (List ℕ)) : Type 0 where
  pub count : nat_le 2 (length words) ≡ true
  pub follows : may_stand_after (border_kind border) last ≡ true
  pub room : border_room border q words ≡ true
