-- What a reader of lines makes of a line, and of a text.
use Rattle.std.specs.Prelude.{◌≡◌, ℕ, ◌+◌, Bool, true, List, [], ◌∷◌, ◌++◌, length, Result, Ok, Err}
use Rattle.tile_io.specs.declared.fault.Cause.{Cause}
use Rattle.tile_io.specs.declared.mark.Mark.{Mark}
use Rattle.tile_io.specs.declared.line_reader.Front.{Front}
use Rattle.tile_io.specs.declared.line_reader.LineStop.{LineStop}
use Rattle.tile_io.specs.declared.line_reader.LineStop.TheVariants as stops
use Rattle.tile_io.specs.Formats.{Format, Reads}
use Rattle.tile_io.specs.Lines.{words_of, BeginsWithLine}
use Rattle.tile_io.specs.Checks.{Keyword, Table, check_line, last_of}

module _ {Item : Type 0} where
  -- One item more, by this check, and whether it is the end line; or the check's fault, or want of memory, and the reader holds what it held.
  abbrev pub TakesItem : (Item → Bool) → (List Item → Type 0) → List Item → Result Item Cause → Result Bool LineStop → Type 0
  TakesItem is_end Holds earlier check (Ok ends) = (item : Item) × (check ≡ Ok item) × (is_end item ≡ ends) × Holds (earlier ++ item ∷ [])
  TakesItem is_end Holds earlier check (Err (stops.Fault cause)) = (check ≡ Err cause) × Holds earlier
  TakesItem is_end Holds earlier check (Err stops.NoMemory) = Holds earlier

  -- A text begins with a line, as many bytes of it were taken as the line and its newline have, and what the line is was taken.
  pub record TakesFront (table : Table Item) (Before After : List Item → Type 0) (text : List ℕ) (front : Front) : Type 0 where
    pub line : List ℕ
    pub begins : BeginsWithLine text line
    pub count : front.length ≡ length line + 1
    pub taken : (items : List Item) → Before items → TakesItem table.is_end After items (check_line table.keywords items (words_of line)) front.done

  -- a reader that holds some items, after which a line of this keyword may stand
  pub record MayTake (row : Keyword (List Item) Item) (Holds : List Item → Type 0) (words : List (List ℕ)) : Type 0 where
    pub items : List Item
    pub held : Holds items
    pub count : row.has_words (length words) ≡ true
    pub follows : row.may_follow (last_of items) ≡ true
    pub room : row.has_room items words ≡ true

  -- the text reads, up to this mark, as items that the reader holds
  pub record ReadsInto (format : Format Item) (text : List ℕ) (from : Mark) (Holds : List Item → Type 0) (to : Mark) : Type 0 where
    pub items : List Item
    pub held : Holds items
    pub reads : Reads format text from items to
