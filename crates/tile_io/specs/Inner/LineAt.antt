-- The line at a mark.
use Rattle.std.specs.Prelude.{◌≡◌, ℕ, ◌+◌, ◌<◌, ◌≤◌, ◌==◌, Bool, true, List, [], ◌∷◌, length, Some}
use Rattle.tile_io.specs.declared.fault.TextFault.{TextFault}
use Rattle.tile_io.specs.declared.mark.Mark.{Mark}
use Rattle.tile_io.specs.declared.reading.Line.{Line}
use Rattle.tile_io.specs.declared.limits.TheConstants.{LONGEST_LINE}
use Rattle.tile_io.specs.Lines.{TextLine, lines_from, plain_cause}
use Rattle.tile_io.specs.NextLine.{line_bytes}

-- the line at a mark, which has a newline and is short
pub record IsLineAt (text : List ℕ) (at : Mark) (line : Line) : Type 0 where
  pub first : lines_from text at ≡ record { bytes = line_bytes text line; ended = true } ∷ lines_from text line.next
  pub plain : length (line_bytes text line) ≤ LONGEST_LINE
  pub start : line.start ≡ at.at
  pub order : line.start ≤ line.end
  pub end : line.end < length text
  pub number : line.number ≡ at.line
  pub next_at : line.next.at ≡ line.end + 1
  pub next_line : line.next.line ≡ at.line + 1

-- or which is too long or has no newline
pub record IsBadAt (text : List ℕ) (at : Mark) (fault : TextFault) : Type 0 where
  pub line : TextLine
  pub others : List TextLine
  pub first : lines_from text at ≡ line ∷ others
  pub cause : plain_cause line ≡ Some fault.cause
  pub number : fault.line ≡ at.line

-- what is left from the first word on is nothing, or begins with `#`
abbrev pub is_remark : List ℕ → Bool
is_remark [] = true
is_remark (byte ∷ bytes) = byte == 35
