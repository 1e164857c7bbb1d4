use Rattle.std.proofs.Common.{◌≡◌, ℕ, ◌-◌, ◌≤◌, List, length, drop}
use Rattle.tile_io.specs.declared.mark.Mark.{Mark}
use Rattle.tile_io.specs.NextLine.{IsMark}
use Rattle.tile_io.specs.Formats.{missing_cause}
use Rattle.tile_io.specs.Checks.{table_format}
use Rattle.tile_io.specs.Inner.Stretches.{Progress, ReadsSoFar, moved}
use Rattle.tile_io.proofs.stretch.read_lines.Given as goal

-- the lines before the mark pass, and are items that the reader holds, in each text that has this rest; the context is that of the start
abbrev pub invariant-lines : goal.invariant-lines
invariant-lines g l = record {
  context : g.R.LineReader.context l.reader ≡ g.R.LineReader.context l.fn.reader;
  items : List g.R.LineReader.Item;
  held : g.R.LineReader.holds l.reader items;
  so_far : (whole : List ℕ) (bytes lines : ℕ) (start : Mark) (before : List g.R.LineReader.Item) → l.text ≡ drop bytes whole → bytes ≤ length whole →
      Progress (table_format (g.R.LineReader.table (g.R.LineReader.context l.fn.reader))) whole start before (moved bytes lines l.fn.from) →
      g.R.LineReader.holds l.fn.reader before → l.fn.first_missing ≡ missing_cause before →
      ReadsSoFar (table_format (g.R.LineReader.table (g.R.LineReader.context l.fn.reader))) whole start (g.R.LineReader.holds l.reader) (moved bytes lines l.mark) l.missing;
  mark : IsMark l.text l.mark;
}

abbrev pub decreases-lines : goal.decreases-lines
decreases-lines g l = length l.text - l.mark.at
