-- The lines of a batch that are none of its systems.
use Rattle.std.specs.Prelude.{ℕ, ◌==◌, Bool, true, false, not, nat_lt, is_none, List, [], ◌∷◌, codes, bytes_eq, Option, Some, None, Result, Ok}
use Rattle.std.specs.Option.{option_to_list}
use Rattle.tile_io.specs.declared.fault.Cause.{Cause}
use Rattle.tile_io.specs.declared.fault.Cause.TheVariants.{NoHeader}
use Rattle.tile_io.specs.declared.mark.Mark.{Mark}
use Rattle.tile_io.specs.Formats.{Format, Reads}
use Rattle.tile_io.specs.Checks.{◌>>=◌, require, field, count_in, Keyword, Table, table_format, row}
use Rattle.job_board.specs.declared.position.Position.{Position}
use Rattle.job_board.specs.declared.position.Position.TheVariants.{AtStart, Behind}
use Rattle.job_board.specs.declared.position.BatchItem.{BatchItem}
use Rattle.job_board.specs.declared.position.BatchItem.TheVariants.{Header, JobLine}

-- The one keyword that may stand at a position, as the first line that is read: the header at the
-- start, and behind so many jobs another one.
abbrev pub row_at : Position → Keyword (List BatchItem) BatchItem
row_at AtStart = row (codes "batch") (λ n. n == 2) is_none (λ earlier words. true) (λ earlier words. do
  _ ← require (bytes_eq (field words 1) (codes "1")) NoHeader
  Ok Header)
row_at (Behind jobs) = row (codes "job") (λ n. n == 2) is_none (λ earlier words. nat_lt jobs 1024)
    (λ earlier words. do
      choice ← count_in 0 4294967295 (field words 1)
      Ok (JobLine choice))

abbrev pub is_start : Position → Bool
is_start AtStart = true
is_start (Behind jobs) = false

-- The next line, or the end of the input, which may come behind the header and behind a system.
unfoldable pub batch_table : Position → Table BatchItem
batch_table position = record {
  keywords = row_at position ∷ [];
  has_header = is_start position;
  is_end = λ item. true;
  is_complete = λ items. not (is_start position);
}

abbrev pub batch_format : Position → Format BatchItem
batch_format position = table_format (batch_table position)

-- the next line from a mark on, up to the mark after it, or none up to the end of the text
abbrev pub ReadsLine : Position → List ℕ → Mark → Option BatchItem → Mark → Type 0
ReadsLine position text from found to = Reads (batch_format position) text from (option_to_list found) to
