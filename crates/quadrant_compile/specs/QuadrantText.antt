-- The text of a quadrant: what each kept line is, which checks it has to pass, and the quadrant
-- that the lines describe.
use Rattle.std.specs.Prelude.{◌≡◌, ℕ, ◌+◌, ◌-◌, ◌==◌, true, is_none, is_some, not, nat_le, nat_lt, List, [], ◌∷◌, ◌++◌, length, drop, map, codes, bytes_eq, option_map, Result, Ok}
use Rattle.std.specs.Option.{unwrap_or}
use Rattle.tile_io.specs.declared.fault.Cause.{Cause}
use Rattle.tile_io.specs.declared.fault.Cause.TheVariants.{NoHeader, DoubleName}
use Rattle.tile_io.specs.declared.mark.Mark.{Mark}
use Rattle.tile_io.specs.Formats.{Format, Reads}
use Rattle.tile_io.specs.Checks.{◌>>=◌, require, field, count_in, declared, referred, behind, last_of, Keyword, told_by, Table, table_to_end, table_format, row}
use Rattle.machine_text.specs.Machines.{is_short_name}
use Rattle.machine_text.specs.MachineText.{references}
use Rattle.quadrant_compile.specs.declared.rule.Rule.{Rule}
use Rattle.quadrant_compile.specs.Quadrants.{RuleQuadrant, answer_among}

-- what a kept line is: its keyword, and the quadrant of the lines up to it
abbrev pub QuadrantItem : Type 0
QuadrantItem = List ℕ × RuleQuadrant

abbrev pub word_of : QuadrantItem → List ℕ
word_of item = item.0

-- the quadrant of lines, which has nothing before the first
unfoldable pub quadrant_of : List QuadrantItem → RuleQuadrant
quadrant_of items = unwrap_or (option_map (λ item. item.1) (last_of items))
    (record { symbols = []; rules = []; width = 0; height = 0; bottom = []; left = [] })

-- the rule of a `rule` line; a second one for the same symbols from the west and from the south is a double one
unfoldable pub rule_in : RuleQuadrant → List (List ℕ) → Result Rule Cause
rule_in q words = do
  west ← referred is_short_name q.symbols (field words 1)
  south ← referred is_short_name q.symbols (field words 2)
  _ ← require (not (is_some (answer_among q.rules west south))) DoubleName
  east ← referred is_short_name q.symbols (field words 3)
  north ← referred is_short_name q.symbols (field words 4)
  Ok (record { west = west; south = south; answer = record { east = east; north = north } })

-- The table of keywords. A row has the word, how many words its line has, behind which lines it may
-- stand, the limit of its kind and its fields, both told by the quadrant of the lines before.
abbrev pub quadrant_rows : List (Keyword RuleQuadrant QuadrantItem)
quadrant_rows =
    row (codes "quadrant") (λ n. n == 2) is_none (λ q words. true) (λ q words. do
      _ ← require (bytes_eq (field words 1) (codes "1")) NoHeader
      Ok (codes "quadrant", q))
    ∷ row (codes "symbol") (λ n. n == 2) (behind word_of (codes "quadrant" ∷ codes "symbol" ∷ []))
    (λ q words. nat_lt (length q.symbols) 64) (λ q words. do
      name ← declared is_short_name q.symbols (field words 1)
      Ok (codes "symbol", record q { symbols = q.symbols ++ name ∷ [] }))
    ∷ row (codes "rule") (λ n. n == 5) (behind word_of (codes "symbol" ∷ codes "rule" ∷ []))
    (λ q words. true) (λ q words. do
      rule ← rule_in q words
      Ok (codes "rule", record q { rules = q.rules ++ rule ∷ [] }))
    ∷ row (codes "size") (λ n. n == 3) (behind word_of (codes "symbol" ∷ codes "rule" ∷ []))
    (λ q words. true) (λ q words. do
      width ← count_in 1 1023 (field words 1)
      height ← count_in 1 1023 (field words 2)
      Ok (codes "size", record q { width = width; height = height }))
    -- all bottom lines together have no more symbols than there are columns
    ∷ row (codes "bottom") (nat_le 2) (behind word_of (codes "size" ∷ codes "bottom" ∷ []))
    (λ q words. nat_le (length q.bottom + (length words - 1)) q.width) (λ q words. do
      symbols ← references q.symbols (drop 1 words)
      Ok (codes "bottom", record q { bottom = q.bottom ++ symbols }))
    -- and all left lines no more than there are rows
    ∷ row (codes "left") (nat_le 2)
    (behind word_of (codes "size" ∷ codes "bottom" ∷ codes "left" ∷ []))
    (λ q words. nat_le (length q.left + (length words - 1)) q.height) (λ q words. do
      symbols ← references q.symbols (drop 1 words)
      Ok (codes "left", record q { left = q.left ++ symbols }))
    ∷ row (codes "end") (λ n. n == 1)
    (behind word_of (codes "size" ∷ codes "bottom" ∷ codes "left" ∷ []))
    (λ q words. true) (λ q words. Ok (codes "end", q))
    ∷ []

-- only the end line completes a text
unfoldable pub quadrant_table : Table QuadrantItem
quadrant_table = table_to_end word_of (map (told_by quadrant_of) quadrant_rows)

-- the format of quadrant texts
abbrev pub quadrant_format : Format QuadrantItem
quadrant_format = table_format quadrant_table

-- the text from a mark on is a version-1 text of this quadrant, up to the mark after its end line
pub record ReadsQuadrant (text : List ℕ) (from : Mark) (q : RuleQuadrant) (to : Mark) : Type 0 where
  pub items : List QuadrantItem
  pub reads : Reads quadrant_format text from items to
  pub quadrant : q ≡ quadrant_of items
