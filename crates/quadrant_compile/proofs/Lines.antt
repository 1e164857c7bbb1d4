-- What a kept line says, and what its checks say of it.
use Rattle.std.proofs.Common.{◌≡◌, ◌<◌, ◌≤◌, ◌+◌, ℕ, false, List, [], ◌∷◌, ◌++◌, length, None, All}
use Rattle.std.specs.Prelude.{IsTrue, bytes_eq}
use Rattle.std.specs.List.{list_any}
use Rattle.machine_text.specs.Machines.{is_short_name}
use Rattle.quadrant_compile.specs.declared.rule.Rule.{Rule}
use Rattle.quadrant_compile.specs.declared.line_kind.LineKind.{LineKind}
use Rattle.quadrant_compile.specs.declared.line_kind.LineKind.TheVariants as kinds
use Rattle.quadrant_compile.specs.Quadrants.{RuleQuadrant, IsRuleOver, answer_among}
use Rattle.quadrant_compile.specs.QuadrantText.{QuadrantItem}
use Rattle.quadrant_compile.specs.Inner.Keywords.{word_of_kind}

pub data QuadrantLine : Type 0 where
  Header : QuadrantLine
  SymbolLine : (name : List ℕ) → QuadrantLine
  RuleLine : (rule : Rule) → QuadrantLine
  SizeLine : (width height : ℕ) → QuadrantLine
  BottomLine : (symbols : List ℕ) → QuadrantLine
  LeftLine : (symbols : List ℕ) → QuadrantLine
  EndLine : QuadrantLine

-- the keyword of a line
abbrev pub kind_of : QuadrantLine → LineKind
kind_of Header = kinds.Quadrant
kind_of (SymbolLine name) = kinds.Symbol
kind_of (RuleLine rule) = kinds.Rule
kind_of (SizeLine width height) = kinds.Size
kind_of (BottomLine symbols) = kinds.Bottom
kind_of (LeftLine symbols) = kinds.Left
kind_of EndLine = kinds.End

-- a quadrant with a line more
abbrev pub with_line : RuleQuadrant → QuadrantLine → RuleQuadrant
with_line q Header = q
with_line q (SymbolLine name) = record q { symbols = q.symbols ++ name ∷ [] }
with_line q (RuleLine rule) = record q { rules = q.rules ++ rule ∷ [] }
with_line q (SizeLine width height) = record q { width = width; height = height }
with_line q (BottomLine symbols) = record q { bottom = q.bottom ++ symbols }
with_line q (LeftLine symbols) = record q { left = q.left ++ symbols }
with_line q EndLine = q

-- what a line's checks say of it, after a quadrant so far
abbrev pub IsFit : RuleQuadrant → QuadrantLine → Type 0
IsFit q Header = Unit {0}
IsFit q (SymbolLine name) = (length q.symbols < 64) × IsTrue (is_short_name name) × (list_any (bytes_eq name) q.symbols ≡ false)
IsFit q (RuleLine rule) = IsRuleOver (length q.symbols) rule × (answer_among q.rules rule.west rule.south ≡ None)
IsFit q (SizeLine width height) = (1 ≤ width) × (width ≤ 1023) × (1 ≤ height) × (height ≤ 1023)
IsFit q (BottomLine symbols) = All (λ a. a < length q.symbols) symbols × (length q.bottom + length symbols ≤ q.width)
IsFit q (LeftLine symbols) = All (λ a. a < length q.symbols) symbols × (length q.left + length symbols ≤ q.height)
IsFit q EndLine = Unit {0}

-- an item is of such a line, of this keyword
pub record IsLine (q : RuleQuadrant) (kind : LineKind) (item : QuadrantItem) : Type 0 where
  pub line : QuadrantLine
  pub keyword : kind_of line ≡ kind
  pub fit : IsFit q line
  pub is : (word_of_kind kind, with_line q line) ≡ item
