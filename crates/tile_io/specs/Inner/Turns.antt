-- What a reader makes of the next line of a text.
use Rattle.std.specs.Prelude.{◌+◌, ◌-◌, ℕ, List, Option, MatchOption, Result, MatchResult}
use Rattle.tile_io.specs.declared.fault.TextFault.{TextFault}
use Rattle.tile_io.specs.declared.line_reader.Front.{Front}
use Rattle.tile_io.specs.declared.mark.Mark.{Mark}
use Rattle.tile_io.specs.declared.stretch.Turn.{Turn}
use Rattle.tile_io.specs.Lines.{lines_from, words_of, AreSkipped}
use Rattle.tile_io.specs.NextLine.{IsNextLine, IsBadLine, line_bytes}
use Rattle.tile_io.specs.Checks.{Table, check_line}
use Rattle.tile_io.specs.LineReader.{TakesItem}

-- the line at a mark that was taken from the front
abbrev pub turn_at : Mark → Front → Turn
turn_at from front =
    record {
      line = record { start = from.at; end = from.at + front.length - 1; number = from.line; next = record { at = from.at + front.length; line = from.line + 1 } };
      done = front.done;
    }

module _ {Item : Type 0} (table : Table Item) (Before After : List Item → Type 0) (text : List ℕ) (from : Mark) where
  -- the next line, and what it is was taken
  pub record TakesLine (turn : Turn) : Type 0 where
    pub next : IsNextLine text from turn.line
    pub taken : (items : List Item) → Before items → TakesItem table.is_end After items (check_line table.keywords items (words_of (line_bytes text turn.line))) turn.done

  -- only empty lines and remarks are left, and the reader holds what it held
  pub record FindsNone : Type 0 where
    pub skipped : AreSkipped (lines_from text from)
    pub left : (items : List Item) → Before items → After items

  -- the next line is taken, or none is left, or it has a fault of its own
  abbrev pub TakesNext : Result (Option Turn) TextFault → Type 0
  TakesNext result = MatchResult result (λ found. MatchOption found FindsNone TakesLine) (IsBadLine text from)
