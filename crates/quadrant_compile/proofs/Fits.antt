-- What the checks of a line say of it.
use Rattle.std.proofs.Common.{◌≡◌, ◌<◌, ◌+◌, ◌-◌, ℕ, Bool, true, false, not, is_some, List, [], ◌∷◌, length, drop, Option, Some, None, Result, Ok, refl, ap, subst, arith, length-drop}
use Rattle.std.specs.Prelude.{bytes_eq, option_map}
use Rattle.std.proofs.lemmas.Bool.{ltb-true, leb-true}
use Rattle.tile_io.specs.declared.fault.Cause.{Cause}
use Rattle.tile_io.specs.declared.fault.Cause.TheVariants.{DoubleName, NoHeader}
use Rattle.tile_io.specs.Checks.{◌>>=◌, require, field, count_in, declared, referred}
use Rattle.tile_io.proofs.Checking.{bind_ok, require_ok}
use Rattle.tile_io.proofs.PassedFields.{count_ok, declared_ok, referred_ok, not_true}
use Rattle.machine_text.specs.Machines.{is_short_name}
use Rattle.machine_text.specs.MachineText.{references}
use Rattle.machine_text.proofs.References.{references_ok}
use Rattle.quadrant_compile.specs.declared.rule.Rule.{Rule}
use Rattle.quadrant_compile.specs.declared.line_kind.LineKind.{LineKind}
use Rattle.quadrant_compile.specs.declared.line_kind.LineKind.TheVariants as kinds
use Rattle.quadrant_compile.specs.Quadrants.{RuleQuadrant, IsRuleOver, answer_among}
use Rattle.quadrant_compile.specs.QuadrantText.{QuadrantItem, quadrant_of, rule_in}
use Rattle.quadrant_compile.specs.Inner.Keywords.{word_of_kind, row_of, may_stand_after, symbol_row, bottom_row, left_row, quadrant_row, rule_row, size_row, end_row}
use Rattle.quadrant_compile.proofs.Lines.{QuadrantLine, IsFit, IsLine, kind_of, with_line}
use Rattle.quadrant_compile.proofs.Lines.QuadrantLine.{Header, SymbolLine, RuleLine, SizeLine, BottomLine, LeftLine, EndLine}

none_of : {X : Type 0} (o : Option X) → is_some o ≡ false → o ≡ None
none_of None is = refl
none_of (Some x) is = absurd (cc is)

module _ (q : RuleQuadrant) where
  -- a rule is in range and new
  abbrev IsNew : Rule → Type 0
  IsNew r = IsRuleOver (length q.symbols) r × (answer_among q.rules r.west r.south ≡ None)

  abbrev made : ℕ → ℕ → ℕ → ℕ → Rule
  made a b x y = record { west = a; south = b; answer = record { east = x; north = y } }

  is_new : (a b x y : ℕ) (r : Rule) → a < length q.symbols → b < length q.symbols → x < length q.symbols → y < length q.symbols → is_some (answer_among q.rules a b) ≡ false → made a b x y ≡ r → IsNew r
  is_new a b x y r west south east north free same = subst IsNew same (record { inputs = (west, south); answer = (east, north) }, none_of (answer_among q.rules a b) free)

  -- a rule that was read is
  rule_ok : (words : List (List ℕ)) (r : Rule) → rule_in q words ≡ Ok r → IsNew r
  unfolding rule_in
  rule_ok words r is =
      let symbol : ℕ → Result ℕ Cause = λ i. referred is_short_name q.symbols (field words i) in
      let free : ℕ → ℕ → Bool = λ a b. not (is_some (answer_among q.rules a b)) in
      let fourth : ℕ → ℕ → ℕ → Result Rule Cause = λ a b x. symbol 4 >>= (λ y. Ok (made a b x y)) in
      let third : ℕ → ℕ → Result Rule Cause = λ a b. symbol 3 >>= (λ x. fourth a b x) in
      let one = bind_ok (symbol 1) (λ a. symbol 2 >>= (λ b. require (free a b) DoubleName >>= (λ _. third a b))) r is in
      let two = bind_ok (symbol 2) (λ b. require (free one.0 b) DoubleName >>= (λ _. third one.0 b)) r one.2 in
      let new = bind_ok (require (free one.0 two.0) DoubleName) (λ _. third one.0 two.0) r two.2 in
      let three = bind_ok (symbol 3) (λ x. fourth one.0 two.0 x) r new.2 in
      let four = bind_ok (symbol 4) (λ y. Ok (made one.0 two.0 three.0 y)) r three.2 in
      is_new one.0 two.0 three.0 four.0 r
      (referred_ok is_short_name q.symbols (field words 1) one.0 one.1)
      (referred_ok is_short_name q.symbols (field words 2) two.0 two.1)
      (referred_ok is_short_name q.symbols (field words 3) three.0 three.1)
      (referred_ok is_short_name q.symbols (field words 4) four.0 four.1)
      (not_true (is_some (answer_among q.rules one.0 two.0)) (require_ok (free one.0 two.0) DoubleName new.0 new.1))
      (cc (four.2))

module _ (q : RuleQuadrant) (words : List (List ℕ)) (item : QuadrantItem) where
  line_is : (line : QuadrantLine) → IsFit q line → (word_of_kind (kind_of line), with_line q line) ≡ item → IsLine q (kind_of line) item
  line_is line fit is = record { line = line; keyword = refl; fit = fit; is = is }

  header_line : quadrant_row.fields q words ≡ Ok item → IsLine q kinds.Quadrant item
  header_line is =
      let one = bind_ok (require (bytes_eq (field words 1) (49 ∷ [])) NoHeader) (λ _. Ok (quadrant_row.word, q)) item is in
      line_is Header tt (cc (one.2))

  symbol_line : symbol_row.has_room q words ≡ true → symbol_row.fields q words ≡ Ok item → IsLine q kinds.Symbol item
  symbol_line room is =
      let one = bind_ok (declared is_short_name q.symbols (field words 1)) (λ name. Ok (symbol_row.word, with_line q (SymbolLine name))) item is in
      let new = declared_ok is_short_name q.symbols (field words 1) one.0 one.1 in
      line_is (SymbolLine one.0) (ltb-true (length q.symbols) 64 room, new.0, new.1) (cc (one.2))

  rule_line : rule_row.fields q words ≡ Ok item → IsLine q kinds.Rule item
  rule_line is =
      let one = bind_ok (rule_in q words) (λ r. Ok (rule_row.word, with_line q (RuleLine r))) item is in
      line_is (RuleLine one.0) (rule_ok q words one.0 one.1) (cc (one.2))

  size_line : size_row.fields q words ≡ Ok item → IsLine q kinds.Size item
  size_line is =
      let one = bind_ok (count_in 1 1023 (field words 1)) (λ x. count_in 1 1023 (field words 2) >>= (λ y. Ok (size_row.word, with_line q (SizeLine x y)))) item is in
      let two = bind_ok (count_in 1 1023 (field words 2)) (λ y. Ok (size_row.word, with_line q (SizeLine one.0 y))) item one.2 in
      let x = count_ok 1 1023 (field words 1) one.0 one.1 in
      let y = count_ok 1 1023 (field words 2) two.0 two.1 in
      line_is (SizeLine one.0 two.0) (x.0, x.1, y.0, y.1) (cc (two.2))

  bottom_line : bottom_row.has_room q words ≡ true → bottom_row.fields q words ≡ Ok item → IsLine q kinds.Bottom item
  bottom_line room is =
      let one = bind_ok (references q.symbols (drop 1 words)) (λ symbols. Ok (bottom_row.word, with_line q (BottomLine symbols))) item is in
      let read = references_ok q.symbols (drop 1 words) one.0 one.1 in
      let count = read.1 in
      let rest : length (drop 1 words) ≡ length words - 1 = length-drop 1 words in
      let few = leb-true (length q.bottom + (length words - 1)) q.width room in
      line_is (BottomLine one.0) (read.0, omega (arith, count, rest, few)) (cc (one.2))

  left_line : left_row.has_room q words ≡ true → left_row.fields q words ≡ Ok item → IsLine q kinds.Left item
  left_line room is =
      let one = bind_ok (references q.symbols (drop 1 words)) (λ symbols. Ok (left_row.word, with_line q (LeftLine symbols))) item is in
      let read = references_ok q.symbols (drop 1 words) one.0 one.1 in
      let count = read.1 in
      let rest : length (drop 1 words) ≡ length words - 1 = length-drop 1 words in
      let few = leb-true (length q.left + (length words - 1)) q.height room in
      line_is (LeftLine one.0) (read.0, omega (arith, count, rest, few)) (cc (one.2))

  end_line : end_row.fields q words ≡ Ok item → IsLine q kinds.End item
  end_line is = line_is EndLine tt (cc is)

-- a line that passes its checks fits
pub line_of : (kind : LineKind) (items : List QuadrantItem) (words : List (List ℕ)) (item : QuadrantItem) → (row_of kind).has_room items words ≡ true → (row_of kind).fields items words ≡ Ok item → IsLine (quadrant_of items) kind item
line_of kinds.Quadrant items words item room is = header_line (quadrant_of items) words item is
line_of kinds.Symbol items words item room is = symbol_line (quadrant_of items) words item room is
line_of kinds.Rule items words item room is = rule_line (quadrant_of items) words item is
line_of kinds.Size items words item room is = size_line (quadrant_of items) words item is
line_of kinds.Bottom items words item room is = bottom_line (quadrant_of items) words item room is
line_of kinds.Left items words item room is = left_line (quadrant_of items) words item room is
line_of kinds.End items words item room is = end_line (quadrant_of items) words item is

-- the limits are told by the quadrant so far
pub room_by_quadrant : (kind : LineKind) (a b : List QuadrantItem) (words : List (List ℕ)) → quadrant_of a ≡ quadrant_of b → (row_of kind).has_room a words ≡ (row_of kind).has_room b words
room_by_quadrant kinds.Symbol a b words same = ap (λ q. symbol_row.has_room q words) same
room_by_quadrant kinds.Bottom a b words same = ap (λ q. bottom_row.has_room q words) same
room_by_quadrant kinds.Left a b words same = ap (λ q. left_row.has_room q words) same
room_by_quadrant kind a b words same = refl

-- what may stand after what, by the keywords
pub follows_is : (kind : LineKind) (last : Option LineKind) (q : RuleQuadrant) → (row_of kind).may_follow (option_map (λ k. (word_of_kind k, q)) last) ≡ may_stand_after kind last
follows_is kinds.Quadrant None q = refl
follows_is kinds.Quadrant (Some kinds.Quadrant) q = refl
follows_is kinds.Quadrant (Some kinds.Symbol) q = refl
follows_is kinds.Quadrant (Some kinds.Rule) q = refl
follows_is kinds.Quadrant (Some kinds.Size) q = refl
follows_is kinds.Quadrant (Some kinds.Bottom) q = refl
follows_is kinds.Quadrant (Some kinds.Left) q = refl
follows_is kinds.Quadrant (Some kinds.End) q = refl
follows_is kinds.Symbol None q = refl
follows_is kinds.Symbol (Some kinds.Quadrant) q = refl
follows_is kinds.Symbol (Some kinds.Symbol) q = refl
follows_is kinds.Symbol (Some kinds.Rule) q = refl
follows_is kinds.Symbol (Some kinds.Size) q = refl
follows_is kinds.Symbol (Some kinds.Bottom) q = refl
follows_is kinds.Symbol (Some kinds.Left) q = refl
follows_is kinds.Symbol (Some kinds.End) q = refl
follows_is kinds.Rule None q = refl
follows_is kinds.Rule (Some kinds.Quadrant) q = refl
follows_is kinds.Rule (Some kinds.Symbol) q = refl
follows_is kinds.Rule (Some kinds.Rule) q = refl
follows_is kinds.Rule (Some kinds.Size) q = refl
follows_is kinds.Rule (Some kinds.Bottom) q = refl
follows_is kinds.Rule (Some kinds.Left) q = refl
follows_is kinds.Rule (Some kinds.End) q = refl
follows_is kinds.Size None q = refl
follows_is kinds.Size (Some kinds.Quadrant) q = refl
follows_is kinds.Size (Some kinds.Symbol) q = refl
follows_is kinds.Size (Some kinds.Rule) q = refl
follows_is kinds.Size (Some kinds.Size) q = refl
follows_is kinds.Size (Some kinds.Bottom) q = refl
follows_is kinds.Size (Some kinds.Left) q = refl
follows_is kinds.Size (Some kinds.End) q = refl
follows_is kinds.Bottom None q = refl
follows_is kinds.Bottom (Some kinds.Quadrant) q = refl
follows_is kinds.Bottom (Some kinds.Symbol) q = refl
follows_is kinds.Bottom (Some kinds.Rule) q = refl
follows_is kinds.Bottom (Some kinds.Size) q = refl
follows_is kinds.Bottom (Some kinds.Bottom) q = refl
follows_is kinds.Bottom (Some kinds.Left) q = refl
follows_is kinds.Bottom (Some kinds.End) q = refl
follows_is kinds.Left None q = refl
follows_is kinds.Left (Some kinds.Quadrant) q = refl
follows_is kinds.Left (Some kinds.Symbol) q = refl
follows_is kinds.Left (Some kinds.Rule) q = refl
follows_is kinds.Left (Some kinds.Size) q = refl
follows_is kinds.Left (Some kinds.Bottom) q = refl
follows_is kinds.Left (Some kinds.Left) q = refl
follows_is kinds.Left (Some kinds.End) q = refl
follows_is kinds.End None q = refl
follows_is kinds.End (Some kinds.Quadrant) q = refl
follows_is kinds.End (Some kinds.Symbol) q = refl
follows_is kinds.End (Some kinds.Rule) q = refl
follows_is kinds.End (Some kinds.Size) q = refl
follows_is kinds.End (Some kinds.Bottom) q = refl
follows_is kinds.End (Some kinds.Left) q = refl
follows_is kinds.End (Some kinds.End) q = refl
