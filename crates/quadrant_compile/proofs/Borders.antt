-- A line of a border, with all its checks.
use Rattle.std.proofs.Common.{◌≡◌, ◌≤◌, ℕ, Bool, true, false, List, length, Option, Some, Ok, Err, refl, sym, ap, subst, ◌∙◌, arith}
use Rattle.std.specs.Prelude.{codes, find, bytes_eq, nat_le}
use Rattle.std.proofs.lemmas.Bool.{le-leb, leb-true}
use Rattle.tile_io.specs.declared.line_reader.LineStop.{LineStop}
use Rattle.tile_io.specs.declared.line_reader.LineStop.TheVariants as stops
use Rattle.tile_io.specs.Checks.{Keyword, field, check_line, last_of}
use Rattle.tile_io.specs.LineReader.{TakesItem}
use Rattle.tile_io.proofs.Checking.{check_keyword}
use Rattle.tile_io.proofs.Rows.{line_at}
use Rattle.quadrant_compile.specs.declared.border.Border.{Border}
use Rattle.quadrant_compile.specs.declared.border.Border.TheVariants as borders
use Rattle.quadrant_compile.specs.declared.line_kind.LineKind.{LineKind}
use Rattle.quadrant_compile.specs.Quadrants.{RuleQuadrant}
use Rattle.quadrant_compile.specs.QuadrantText.{QuadrantItem, quadrant_of, word_of, quadrant_table}
use Rattle.quadrant_compile.specs.Inner.Keywords.{word_of_kind, row_of, is_last, may_stand_after, bottom_row, left_row}
use Rattle.quadrant_compile.specs.Inner.Borders.{HasPlace, border_kind, border_room}
use Rattle.quadrant_compile.specs.Inner.SoFar.{HoldsLines}
use Rattle.machine_text.specs.NameChecks.{Gets}
use Rattle.quadrant_compile.proofs.Lines.{IsLine}
use Rattle.quadrant_compile.proofs.Built.{holds-push, last_is}
use Rattle.quadrant_compile.proofs.Fits.{line_of, follows_is}

count_is : (border : Border) (words : List (List ℕ)) → nat_le 2 (length words) ≡ true → (row_of (border_kind border)).has_words (length words) ≡ true
count_is borders.Bottom words count = count
count_is borders.Left words count = count

room_is : (border : Border) (q : RuleQuadrant) (items : List QuadrantItem) (words : List (List ℕ)) → q ≡ quadrant_of items → border_room border q words ≡ true → (row_of (border_kind border)).has_room items words ≡ true
room_is borders.Bottom q items words same room = ap (λ v. bottom_row.has_room v words) (sym same) ∙ room
room_is borders.Left q items words same room = ap (λ v. left_row.has_room v words) (sym same) ∙ room

-- the checks before the fields, as they are made
pub has_place : (border : Border) (q : RuleQuadrant) (last : Option LineKind) (words : List (List ℕ)) (kind : LineKind) (count : ℕ) (stands room : Bool) → count ≡ length words → 2 ≤ count →
    kind ≡ border_kind border → stands ≡ may_stand_after kind last → stands ≡ true → room ≡ border_room border q words → room ≡ true → HasPlace border q last words
has_place border q last words kind count stands room count_is two kind_is stands_is stand room_is has =
    record {
      count = le-leb 2 (length words) (omega (arith, count_is, two));
      follows = ap (λ k. may_stand_after k last) (sym kind_is) ∙ sym stands_is ∙ stand;
      room = sym room_is ∙ has;
    }

-- a border's line doesn't end the text
never_last : (border : Border) → is_last (border_kind border) ≡ false
never_last borders.Bottom = refl
never_last borders.Left = refl

-- the fields alone are left to check
passed : (row : Keyword (List QuadrantItem) QuadrantItem) (items : List QuadrantItem) (words : List (List ℕ)) → row.has_words (length words) ≡ true → row.may_follow (last_of items) ≡ true → row.has_room items words ≡ true → check_keyword (Some row) items words ≡ row.fields items words
passed row items words count follows room = rw (count, follows, room) refl

module _ (border : Border) (q : RuleQuadrant) (last : Option LineKind) (items : List QuadrantItem) (words : List (List ℕ)) (place : HasPlace border q last words) (held : HoldsLines q last items) where
  border_check : find (λ row. bytes_eq (field words 0) row.word) quadrant_table.keywords ≡ Some (row_of (border_kind border)) → check_line quadrant_table.keywords items words ≡ (row_of (border_kind border)).fields items words
  border_check keyword =
      let kind = border_kind border in
      let follows : (row_of kind).may_follow (last_of items) ≡ true = ap (row_of kind).may_follow held.last_item ∙ follows_is kind last q ∙ place.follows in
      let two : 2 ≤ length words = leb-true 2 (length words) place.count in
      line_at quadrant_table.keywords items words (omega (arith, two)) ∙ ap (λ k. check_keyword k items words) keyword
      ∙ passed (row_of kind) items words (count_is border words place.count) follows (room_is border q items words held.quadrant place.room)

  -- it passes
  pub border_taken : (new : RuleQuadrant) → find (λ row. bytes_eq (field words 0) row.word) quadrant_table.keywords ≡ Some (row_of (border_kind border)) → Gets (word_of_kind (border_kind border)) ((row_of (border_kind border)).fields items words) q new (Ok tt) →
      TakesItem (λ item. bytes_eq (word_of item) (codes "end")) (λ l. HoldsLines new (Some (border_kind border)) l) items (check_line quadrant_table.keywords items words) (Ok false)
  border_taken new keyword took =
      let kind = border_kind border in
      let item : QuadrantItem = (word_of_kind kind, new) in
      let room = room_is border q items words held.quadrant place.room in
      let line : IsLine q kind item = subst (λ (v : RuleQuadrant). IsLine v kind item) (sym held.quadrant) (line_of kind items words item room took) in
      (item, border_check keyword ∙ took, last_is kind ∙ never_last border, holds-push q last kind items item held place.follows line)

  -- or stops
  pub border_stopped : (new : RuleQuadrant) (stop : LineStop) → find (λ row. bytes_eq (field words 0) row.word) quadrant_table.keywords ≡ Some (row_of (border_kind border)) → Gets (word_of_kind (border_kind border)) ((row_of (border_kind border)).fields items words) q new (Err stop) →
      TakesItem (λ item. bytes_eq (word_of item) (codes "end")) (λ l. HoldsLines new last l) items (check_line quadrant_table.keywords items words) (Err stop)
  border_stopped new (stops.Fault cause) keyword stopped = (border_check keyword ∙ stopped.0, subst (λ (v : RuleQuadrant). HoldsLines v last items) (sym stopped.1) held)
  border_stopped new stops.NoMemory keyword stopped = subst (λ (v : RuleQuadrant). HoldsLines v last items) (sym stopped) held
