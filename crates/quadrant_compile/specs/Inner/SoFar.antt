-- What the reader of a quadrant text holds of the lines that it took.
use Rattle.std.specs.Prelude.{◌≡◌, ◌<◌, ◌≤◌, false, List, [], length, option_map, Option, Some, None, All, AllPairs}
use Rattle.tile_io.specs.Checks.{last_of}
use Rattle.machine_text.specs.Inner.SoFar.{AreNames}
use Rattle.quadrant_compile.specs.declared.limits.TheConstants.{MOST_SYMBOLS, LONGEST_SIDE}
use Rattle.quadrant_compile.specs.declared.line_kind.LineKind.{LineKind}
use Rattle.quadrant_compile.specs.declared.line_kind.LineKind.TheVariants as kinds
use Rattle.quadrant_compile.specs.declared.parts.QuadrantParts.{QuadrantParts}
use Rattle.quadrant_compile.specs.Quadrants.{RuleQuadrant, IsRuleOver, is_for}
use Rattle.quadrant_compile.specs.QuadrantText.{QuadrantItem, quadrant_of}
use Rattle.quadrant_compile.specs.Inner.Keywords.{word_of_kind}

-- the quadrant that parts make
abbrev pub quadrant_in : QuadrantParts → RuleQuadrant
quadrant_in p = record {
  symbols = p.symbols;
  rules = p.rules;
  width = p.width;
  height = p.height;
  bottom = p.bottom.items;
  left = p.left.items;
}

-- what is so after each line
pub record IsDraft (q : RuleQuadrant) : Type 0 where
  pub few : length q.symbols ≤ MOST_SYMBOLS
  pub names : AreNames q.symbols
  pub rules : All (IsRuleOver (length q.symbols)) q.rules
  pub distinct_rules : AllPairs (λ t u. is_for t.west t.south u ≡ false) q.rules
  pub column_count : q.width ≤ LONGEST_SIDE
  pub row_count : q.height ≤ LONGEST_SIDE
  pub bottom_symbols : All (λ a. a < length q.symbols) q.bottom
  pub left_symbols : All (λ a. a < length q.symbols) q.left

-- there are symbols, and no borders yet
pub record HasAlphabet (q : RuleQuadrant) : Type 0 where
  pub some_symbol : 1 ≤ length q.symbols
  pub no_bottom : q.bottom ≡ []
  pub no_left : q.left ≡ []

-- there is everything, and the borders may grow
pub record HasAll (q : RuleQuadrant) : Type 0 where
  pub some_symbol : 1 ≤ length q.symbols
  pub some_column : 1 ≤ q.width
  pub some_row : 1 ≤ q.height
  pub bottom_length : length q.bottom ≤ q.width
  pub left_length : length q.left ≤ q.height

-- what is so after a line of this keyword
abbrev pub HasCome : Option LineKind → RuleQuadrant → Type 0
HasCome None q = (q.bottom ≡ []) × (q.left ≡ [])
HasCome (Some kinds.Quadrant) q = (q.bottom ≡ []) × (q.left ≡ [])
HasCome (Some kinds.Symbol) q = HasAlphabet q
HasCome (Some kinds.Rule) q = HasAlphabet q
HasCome (Some kinds.Size) q = HasAll q
HasCome (Some kinds.Bottom) q = HasAll q
HasCome (Some kinds.Left) q = HasAll q
HasCome (Some kinds.End) q = HasAll q

-- the quadrant of the lines, and the keyword of the last line
pub record HoldsLines (q : RuleQuadrant) (last : Option LineKind) (items : List QuadrantItem)
    : Type 0 where
  pub quadrant : q ≡ quadrant_of items
  pub last_item : last_of items ≡ option_map (λ kind. (word_of_kind kind, q)) last
  pub draft : IsDraft q
  pub come : HasCome last q
