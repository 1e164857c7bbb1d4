-- The checks of a line, one after another, and what a check that passed says.
use Rattle.std.proofs.Common.{◌≡◌, ℕ, ◌+◌, ◌-◌, Bool, true, false, List, [], ◌∷◌, ◌++◌, length, slice_get, Option, Some, Result, Ok, Err, refl, ap, ◌∙◌, length-append, arith}
use Rattle.std.specs.Prelude.{bytes_eq, find, ok_or, None}
use Rattle.tile_io.specs.declared.fault.Cause.{Cause}
use Rattle.tile_io.specs.declared.fault.Cause.TheVariants.{BadLine, OutOfOrder, TooMany}
use Rattle.tile_io.specs.Checks.{◌>>=◌, require, Keyword, check_line, last_of}

module _ {Item : Type 0} where
  get_last : (items : List Item) (item : Item) → slice_get (items ++ item ∷ []) (length items) ≡ Some item
  get_last [] item = refl
  get_last (first ∷ items) item = get_last items item

  pub last_push : (items : List Item) (item : Item) → last_of (items ++ item ∷ []) ≡ Some item
  last_push items item =
      let at : length (items ++ item ∷ []) - 1 ≡ length items = (let size : length (items ++ item ∷ []) ≡ length items + 1 = length-append items (item ∷ []) in omega (arith, size)) in
      ap (λ n. slice_get (items ++ item ∷ []) n) at ∙ get_last items item

pub bind_ok : {X Y : Type 0} (m : Result X Cause) (f : X → Result Y Cause) (y : Y) → (m >>= f) ≡ Ok y → (x : X) × (m ≡ Ok x) × (f x ≡ Ok y)
bind_ok (Ok x) f y e = (x, refl, e)
bind_ok (Err cause) f y e = absurd (cc e)

pub require_ok : (b : Bool) (cause : Cause) (u : Unit {0}) → require b cause ≡ Ok u → b ≡ true
require_ok true cause u e = refl
require_ok false cause u e = absurd (cc e)

-- the keyword that the first word is
abbrev pub keyword_of : {Item : Type 0} → List (Keyword (List Item) Item) → List (List ℕ) → Option (Keyword (List Item) Item)
keyword_of keywords [] = None
keyword_of keywords (first ∷ rest) = find (λ row. bytes_eq first row.word) keywords

-- the checks of a line of this keyword, where there is one
abbrev pub check_keyword : {Item : Type 0} → Option (Keyword (List Item) Item) → List Item → List (List ℕ) → Result Item Cause
check_keyword found earlier words = do
  keyword ← ok_or found BadLine
  _ ← require (keyword.has_words (length words)) BadLine
  _ ← require (keyword.may_follow (last_of earlier)) OutOfOrder
  _ ← require (keyword.has_room earlier words) TooMany
  keyword.fields earlier words

pub by_keyword : {Item : Type 0} (keywords : List (Keyword (List Item) Item)) (earlier : List Item) (words : List (List ℕ)) →
    check_line keywords earlier words ≡ check_keyword (keyword_of keywords words) earlier words
by_keyword keywords earlier [] = refl
by_keyword keywords earlier (first ∷ rest) = refl

-- a keyword's line that passed: it may stand there, and its fields pass
pub row_ok : {Item : Type 0} (row : Keyword (List Item) Item) (earlier : List Item) (words : List (List ℕ)) (item : Item) → check_keyword (Some row) earlier words ≡ Ok item →
    (row.has_words (length words) ≡ true) × (row.may_follow (last_of earlier) ≡ true) × (row.has_room earlier words ≡ true) × (row.fields earlier words ≡ Ok item)
row_ok row earlier words item e =
    let one = bind_ok (require (row.has_words (length words)) BadLine) (λ _. require (row.may_follow (last_of earlier)) OutOfOrder >>= (λ _. require (row.has_room earlier words) TooMany >>= (λ _. row.fields earlier words))) item e in
    let two = bind_ok (require (row.may_follow (last_of earlier)) OutOfOrder) (λ _. require (row.has_room earlier words) TooMany >>= (λ _. row.fields earlier words)) item one.2 in
    let three = bind_ok (require (row.has_room earlier words) TooMany) (λ _. row.fields earlier words) item two.2 in
    (require_ok (row.has_words (length words)) BadLine one.0 one.1, require_ok (row.may_follow (last_of earlier)) OutOfOrder two.0 two.1, require_ok (row.has_room earlier words) TooMany three.0 three.1, three.2)
