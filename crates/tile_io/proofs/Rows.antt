-- A line by its row in a table of keywords, and the cause of a line that fails.
use Rattle.std.proofs.Common.{◌≡◌, ℕ, ◌<◌, Bool, true, false, List, [], ◌∷◌, length, Option, Some, None, Result, Ok, Err, refl, sym, ap, ◌∙◌, arith}
use Rattle.std.specs.Prelude.{bytes_eq, find}
use Rattle.tile_io.specs.declared.fault.Cause.{Cause}
use Rattle.tile_io.specs.Formats.{missing_cause}
use Rattle.tile_io.specs.Checks.{Keyword, check_line, last_of, field, by_header}
use Rattle.tile_io.proofs.Checking.{check_keyword}
use Rattle.tile_io.specs.Inner.Headers.{first_cause}

module _ {Item : Type 0} where
  -- the keyword of a line is that of its first word
  pub line_at : (keywords : List (Keyword (List Item) Item)) (items : List Item) (words : List (List ℕ)) → 0 < length words →
      check_line keywords items words ≡ check_keyword (find (λ row. bytes_eq (field words 0) row.word) keywords) items words
  line_at keywords items [] some = absurd (omega (arith, some))
  line_at keywords items (first ∷ rest) some = refl

  pub row_at : (keywords : List (Keyword (List Item) Item)) (row : Keyword (List Item) Item) (items : List Item) (words : List (List ℕ)) → 0 < length words →
      Some row ≡ find (λ row. bytes_eq (field words 0) row.word) keywords → check_line keywords items words ≡ check_keyword (Some row) items words
  row_at keywords row items words some found = line_at keywords items words some ∙ ap (λ r. check_keyword r items words) (sym found)

  -- a line that may stand where it does passes where its fields do
  pub check_line_by : (keywords : List (Keyword (List Item) Item)) (row : Keyword (List Item) Item) (items : List Item) (words : List (List ℕ)) → 0 < length words →
      Some row ≡ find (λ row. bytes_eq (field words 0) row.word) keywords → row.has_words (length words) ≡ true → row.may_follow (last_of items) ≡ true → row.has_room items words ≡ true →
      check_line keywords items words ≡ row.fields items words
  check_line_by keywords row items words some found count follows room =
      row_at keywords row items words some found ∙ rw (count, follows, room) refl

  -- a header that is still missing is what a line lacks that fails
  pub header_passes : (has_header : Bool) (items : List Item) (check : Result Item Cause) (item : Item) → check ≡ Ok item → by_header has_header items check ≡ Ok item
  header_passes false items check item e = e
  header_passes true [] check item e = ap (λ c. by_header true [] c) e
  header_passes true (first ∷ others) check item e = e

  pub header_fails : (has_header : Bool) (items : List Item) (check : Result Item Cause) (missing cause : Cause) → missing ≡ missing_cause items → check ≡ Err cause →
      by_header has_header items check ≡ Err (first_cause has_header missing cause)
  header_fails false items check missing cause m e = e
  header_fails true [] check missing cause m e = ap (λ c. by_header true [] c) e ∙ ap (λ n. Err (first_cause true n cause)) (sym m)
  header_fails true (first ∷ others) check missing cause m e = e ∙ ap (λ n. Err (first_cause true n cause)) (sym m)

  -- a line that passed is that of a row
  pub header_ok : (has_header : Bool) (items : List Item) (check : Result Item Cause) (item : Item) → by_header has_header items check ≡ Ok item → check ≡ Ok item
  header_ok false items check item e = e
  header_ok true [] (Ok other) item e = e
  header_ok true [] (Err cause) item e = absurd (cc e)
  header_ok true (first ∷ others) check item e = e

  pub found_row : (row : Option (Keyword (List Item) Item)) (items : List Item) (words : List (List ℕ)) (item : Item) → check_keyword row items words ≡ Ok item → (found : Keyword (List Item) Item) × (row ≡ Some found) × (check_keyword (Some found) items words ≡ Ok item)
  found_row None items words item e = absurd (cc e)
  found_row (Some row) items words item e = (row, refl, e)
