-- A quadrant in the making has what the lines give, and is sound.
use Rattle.std.proofs.Common.{◌≡◌, ◌≢◌, ◌<◌, ◌≤◌, ◌+◌, ◌==◌, ℕ, true, false, List, [], ◌∷◌, ◌++◌, length, get_or, Option, Some, None, refl, sym, ◌∙◌, ap, subst, inl, inr, arith, length-append}
use Rattle.std.specs.Prelude.{codes, IsTrue, AllPairs, bytes_eq, option_map, find}
use Rattle.std.specs.Option.{unwrap_or}
use Rattle.std.specs.List.{list_any}
use Rattle.std.proofs.lemmas.Bool.{cases_Bool, eqb-true}
use Rattle.std.proofs.lemmas.List.Elements.{All-push, All-append}
use Rattle.std.proofs.lemmas.List.Quantifiers.{all_pairs_push}
use Rattle.std.proofs.lemmas.Slice.Eq.{bytes_eq-Decides}
use Rattle.std.proofs.lemmas.Option.{none-some, same_Some}
use Rattle.tile_io.specs.declared.mark.Mark.{Mark}
use Rattle.tile_io.specs.Checks.{last_of}
use Rattle.tile_io.specs.Formats.{Reads}
use Rattle.tile_io.proofs.Checking.{last_push}
use Rattle.tile_io.proofs.PassedFields.{and_both}
use Rattle.machine_text.specs.Machines.{is_short_name}
use Rattle.machine_text.specs.Inner.SoFar.{AreNames}
use Rattle.machine_text.proofs.Finding.{each_fails, none_found}
use Rattle.quadrant_compile.specs.declared.rule.Rule.{Rule}
use Rattle.quadrant_compile.specs.declared.line_kind.LineKind.{LineKind}
use Rattle.quadrant_compile.specs.declared.line_kind.LineKind.TheVariants as kinds
use Rattle.quadrant_compile.specs.Quadrants.{RuleQuadrant, IsQuadrant, IsRuleOver, is_for}
use Rattle.quadrant_compile.specs.Quadrants.{answer_among}
use Rattle.quadrant_compile.specs.QuadrantText.{QuadrantItem, quadrant_of, quadrant_format, quadrant_table}
use Rattle.quadrant_compile.specs.Inner.Keywords.{word_of_kind, may_stand_after, is_last}
use Rattle.quadrant_compile.specs.Inner.SoFar.{IsDraft, HasAlphabet, HasAll, HasCome, HoldsLines}
use Rattle.quadrant_compile.proofs.Lines.{QuadrantLine, IsFit, IsLine, kind_of, with_line}
use Rattle.quadrant_compile.proofs.Lines.QuadrantLine.{Header, SymbolLine, RuleLine, SizeLine, BottomLine, LeftLine, EndLine}
use Rattle.quadrant_compile.proofs.RuleTables.{is_own}

-- It stays sound.
names_push : (names : List (List ℕ)) (name : List ℕ) → AreNames names → IsTrue (is_short_name name) → list_any (bytes_eq name) names ≡ false → AreNames (names ++ name ∷ [])
names_push names name are short new = record {
  short = All-push (λ n. IsTrue (is_short_name n)) names name are.short short;
  distinct = all_pairs_push (λ a b. a ≢ b) names name are.distinct (λ k d within same.
      let differ = each_fails (bytes_eq name) names new k d within in
      let equal : bytes_eq name (get_or names k d) ≡ true = (bytes_eq-Decides name (get_or names k d)).1 (sym same) in
      let clash : true ≡ false = sym equal ∙ differ in
      cc clash);
}

no_rule : (found : Option Rule) → option_map (λ t. t.answer) found ≡ None → found ≡ None
no_rule None none = refl
no_rule (Some t) none = absurd (none-some t.answer (sym none))

-- of two transitions, each is for the other's symbols, or none is
is_for_turned : (t u : Rule) → is_for t.west t.south u ≡ false → is_for u.west u.south t ≡ false
is_for_turned t u not = elim (cases_Bool (is_for u.west u.south t)) [
  | inl is ↦
      let both = and_both (t.west == u.west) (t.south == u.south) is in
      let own = is_own u t.west t.south (sym (eqb-true t.west u.west both.0)) (sym (eqb-true t.south u.south both.1)) in
      let clash : true ≡ false = sym own ∙ not in
      absurd (cc clash)
  | inr other ↦ other
]

rules_push : (rules : List Rule) (t : Rule) → AllPairs (λ u v. is_for u.west u.south v ≡ false) rules → answer_among rules t.west t.south ≡ None → AllPairs (λ u v. is_for u.west u.south v ≡ false) (rules ++ t ∷ [])
rules_push rules t distinct fresh =
    all_pairs_push (λ u v. is_for u.west u.south v ≡ false) rules t distinct (λ k d within.
    is_for_turned t (get_or rules k d) (none_found (is_for t.west t.south) rules (no_rule (find (is_for t.west t.south) rules) fresh) k d within))

draft_push : (q : RuleQuadrant) (item : QuadrantLine) →
    IsDraft q → IsFit q item → IsDraft (with_line q item)
draft_push q Header draft fit = draft
draft_push q EndLine draft fit = draft
draft_push q (SymbolLine name) draft fit =
    let more : length (q.symbols ++ name ∷ []) ≡ length q.symbols + 1 = length-append q.symbols (name ∷ []) in
    record {
      few = omega (arith, more, fit.0);
      names = names_push q.symbols name draft.names fit.1 fit.2;
      rules = λ k d within. let t = draft.rules k d within in record { inputs = (omega (arith, more, t.inputs.0), omega (arith, more, t.inputs.1)); answer = (omega (arith, more, t.answer.0), omega (arith, more, t.answer.1)) };
      distinct_rules = draft.distinct_rules;
      column_count = draft.column_count;
      row_count = draft.row_count;
      bottom_symbols = λ k d within. let below = draft.bottom_symbols k d within in omega (arith, more, below);
      left_symbols = λ k d within. let below = draft.left_symbols k d within in omega (arith, more, below);
    }
draft_push q (RuleLine t) draft fit = record {
  few = draft.few;
  names = draft.names;
  rules = All-push (IsRuleOver (length q.symbols)) q.rules t draft.rules fit.0;
  distinct_rules = rules_push q.rules t draft.distinct_rules fit.1;
  column_count = draft.column_count;
  row_count = draft.row_count;
  bottom_symbols = draft.bottom_symbols;
  left_symbols = draft.left_symbols;
}
draft_push q (SizeLine x y) draft fit = record {
  few = draft.few;
  names = draft.names;
  rules = draft.rules;
  distinct_rules = draft.distinct_rules;
  column_count = fit.1;
  row_count = fit.3;
  bottom_symbols = draft.bottom_symbols;
  left_symbols = draft.left_symbols;
}
draft_push q (BottomLine symbols) draft fit = record {
  few = draft.few;
  names = draft.names;
  rules = draft.rules;
  distinct_rules = draft.distinct_rules;
  column_count = draft.column_count;
  row_count = draft.row_count;
  bottom_symbols = All-append (λ a. a < length q.symbols) q.bottom symbols draft.bottom_symbols fit.0;
  left_symbols = draft.left_symbols;
}
draft_push q (LeftLine symbols) draft fit = record {
  few = draft.few;
  names = draft.names;
  rules = draft.rules;
  distinct_rules = draft.distinct_rules;
  column_count = draft.column_count;
  row_count = draft.row_count;
  bottom_symbols = draft.bottom_symbols;
  left_symbols = All-append (λ a. a < length q.symbols) q.left symbols draft.left_symbols fit.0;
}

-- Each line comes after those that it needs.
more_symbols : (q : RuleQuadrant) (name : List ℕ) → q.bottom ≡ [] → q.left ≡ [] → HasAlphabet (with_line q (SymbolLine name))
more_symbols q name bottom left =
    let more : length (q.symbols ++ name ∷ []) ≡ length q.symbols + 1 = length-append q.symbols (name ∷ []) in
    record { some_symbol = omega (arith, more); no_bottom = bottom; no_left = left }

with_size : (q : RuleQuadrant) (x y : ℕ) → HasAlphabet q → 1 ≤ x → 1 ≤ y → HasAll (with_line q (SizeLine x y))
with_size q x y has some_column some_row =
    let bottom : length q.bottom ≡ 0 = ap length has.no_bottom in
    let left : length q.left ≡ 0 = ap length has.no_left in
    record { some_symbol = has.some_symbol; some_column = some_column; some_row = some_row; bottom_length = omega (arith, bottom); left_length = omega (arith, left) }

with_bottom : (q : RuleQuadrant) (symbols : List ℕ) → HasAll q → length q.bottom + length symbols ≤ q.width → HasAll (with_line q (BottomLine symbols))
with_bottom q symbols has room =
    let longer : length (q.bottom ++ symbols) ≡ length q.bottom + length symbols = length-append q.bottom symbols in
    record { some_symbol = has.some_symbol; some_column = has.some_column; some_row = has.some_row; bottom_length = omega (arith, longer, room); left_length = has.left_length }

with_left : (q : RuleQuadrant) (symbols : List ℕ) → HasAll q → length q.left + length symbols ≤ q.height → HasAll (with_line q (LeftLine symbols))
with_left q symbols has room =
    let longer : length (q.left ++ symbols) ≡ length q.left + length symbols = length-append q.left symbols in
    record { some_symbol = has.some_symbol; some_column = has.some_column; some_row = has.some_row; bottom_length = has.bottom_length; left_length = omega (arith, longer, room) }

-- nothing follows the end line
never_after_end : (item : QuadrantLine) → may_stand_after (kind_of item) (Some kinds.End) ≡ true → ⊥
never_after_end Header stands = cc stands
never_after_end item stands = cc stands

come_push : (q : RuleQuadrant) (last : Option LineKind) (item : QuadrantLine) → may_stand_after (kind_of item) last ≡ true → HasCome last q → IsFit q item → HasCome (Some (kind_of item)) (with_line q item)
come_push q None Header stands come fit = come
come_push q (Some kinds.Quadrant) (SymbolLine name) stands come fit = more_symbols q name come.0 come.1
come_push q (Some kinds.Symbol) (SymbolLine name) stands come fit = more_symbols q name come.no_bottom come.no_left
come_push q (Some kinds.Symbol) (RuleLine t) stands come fit = record { some_symbol = come.some_symbol; no_bottom = come.no_bottom; no_left = come.no_left }
come_push q (Some kinds.Rule) (RuleLine t) stands come fit = record { some_symbol = come.some_symbol; no_bottom = come.no_bottom; no_left = come.no_left }
come_push q (Some kinds.Symbol) (SizeLine x y) stands come fit = with_size q x y come fit.0 fit.2
come_push q (Some kinds.Rule) (SizeLine x y) stands come fit = with_size q x y come fit.0 fit.2
come_push q (Some kinds.Size) (BottomLine symbols) stands come fit = with_bottom q symbols come fit.1
come_push q (Some kinds.Bottom) (BottomLine symbols) stands come fit = with_bottom q symbols come fit.1
come_push q (Some kinds.Size) (LeftLine symbols) stands come fit = with_left q symbols come fit.1
come_push q (Some kinds.Bottom) (LeftLine symbols) stands come fit = with_left q symbols come fit.1
come_push q (Some kinds.Left) (LeftLine symbols) stands come fit = with_left q symbols come fit.1
come_push q (Some kinds.Size) EndLine stands come fit = come
come_push q (Some kinds.Bottom) EndLine stands come fit = come
come_push q (Some kinds.Left) EndLine stands come fit = come
come_push q (Some kinds.End) item stands come fit = absurd (never_after_end item stands)
come_push q last item stands come fit = absurd (cc stands)

-- what is held survives a line
pub holds-push : (q : RuleQuadrant) (last : Option LineKind) (kind : LineKind) (items : List QuadrantItem) (item : QuadrantItem) → HoldsLines q last items → may_stand_after kind last ≡ true → IsLine q kind item →
    HoldsLines item.1 (Some kind) (items ++ item ∷ [])
unfolding quadrant_of
holds-push q last kind items item held stands is =
    let now : with_line q is.line ≡ item.1 = ap (λ (pair : QuadrantItem). pair.1) is.is in
    let worded : (word_of_kind kind, item.1) ≡ item = ap (λ v. (word_of_kind kind, v)) (sym now) ∙ is.is in
    let stood : may_stand_after (kind_of is.line) last ≡ true = ap (λ k. may_stand_after k last) is.keyword ∙ stands in
    let come : HasCome (Some kind) (with_line q is.line) = subst (λ k. HasCome (Some k) (with_line q is.line)) is.keyword (come_push q last is.line stood held.come is.fit) in
    record {
      quadrant = sym (ap (λ o. unwrap_or (option_map (λ (pair : QuadrantItem). pair.1) o) (quadrant_of [])) (last_push items item));
      last_item = last_push items item ∙ ap (λ (i : QuadrantItem). Some i) (sym worded);
      draft = subst IsDraft now (draft_push q is.line held.draft is.fit);
      come = subst (HasCome (Some kind)) now come;
    }

-- before the first line
pub nothing_held : HoldsLines (quadrant_of []) None []
unfolding quadrant_of
nothing_held = record {
  quadrant = refl;
  last_item = refl;
  draft = record {
    few = omega arith;
    names = record { short = λ k d within. none_within within; distinct = λ i j d before within. none_within within };
    rules = λ k d within. none_within within;
    distinct_rules = λ i j d before within. none_within within;
    column_count = omega arith;
    row_count = omega arith;
    bottom_symbols = λ k d within. none_within within;
    left_symbols = λ k d within. none_within within;
  };
  come = (refl, refl);
}
  where
    none_within : {P : Type 0} {n : ℕ} → n < 0 → P
    none_within within = let never : ⊥ = omega (arith, within) in absurd never

pub last_is : (kind : LineKind) → bytes_eq (word_of_kind kind) (codes "end") ≡ is_last kind
last_is kinds.Quadrant = refl
last_is kinds.Symbol = refl
last_is kinds.Rule = refl
last_is kinds.Size = refl
last_is kinds.Bottom = refl
last_is kinds.Left = refl
last_is kinds.End = refl

-- after the end line there is a quadrant
is_quadrant : (q : RuleQuadrant) → IsDraft q → HasAll q → IsQuadrant q
is_quadrant q draft has = record {
  symbols = record { count = (has.some_symbol, draft.few); short = draft.names.short; distinct = draft.names.distinct };
  rules = draft.rules;
  distinct_rules = draft.distinct_rules;
  columns = (has.some_column, draft.column_count);
  rows = (has.some_row, draft.row_count);
  bottom = (has.bottom_length, draft.bottom_symbols);
  left = (has.left_length, draft.left_symbols);
}

ends_at_end : (q : RuleQuadrant) (last : Option LineKind) (item : QuadrantItem) → Some item ≡ option_map (λ kind. (word_of_kind kind, q)) last → bytes_eq item.0 (codes "end") ≡ true → last ≡ Some kinds.End
ends_at_end q None item is ends = absurd (none-some item (sym is))
ends_at_end q (Some kinds.End) item is ends = refl
ends_at_end q (Some kind) item is ends =
    let same = same_Some item (word_of_kind kind, q) is in
    let end : bytes_eq (word_of_kind kind) (codes "end") ≡ true = ap (λ (pair : QuadrantItem). bytes_eq pair.0 (codes "end")) (sym same) ∙ ends in
    absurd (cc end)

-- what was read to the end line is a quadrant
pub IsQuadrant-read : (q : RuleQuadrant) (last : Option LineKind) (items : List QuadrantItem) (text : List ℕ) (from to : Mark) → HoldsLines q last items → Reads quadrant_format text from items to → IsQuadrant q
unfolding quadrant_table
IsQuadrant-read q last items text from to held reads = elim reads [
  | inl read ↦
      let is : Some read.last ≡ option_map (λ kind. (word_of_kind kind, q)) last = sym (ap last_of read.whole ∙ last_push read.earlier read.last) ∙ held.last_item in
      is_quadrant q held.draft (subst (λ k. HasCome k q) (ends_at_end q last read.last is read.ends) held.come)
  | inr read ↦ absurd (cc (read.complete))
]
