-- A system text at the front of a longer one.
use Rattle.std.proofs.Common.{◌≤◌, ℕ, List, ◌++◌, length, inl, inr}
use Rattle.tile_io.specs.declared.mark.Mark.{Mark}
use Rattle.tile_io.specs.Lines.{lines_from}
use Rattle.tile_io.specs.NextLine.{IsMark}
use Rattle.tile_io.specs.Formats.{ReadsToEndLine}
use Rattle.tile_io.proofs.Prefixes.{end_line_on, end_mark_on, header_on}
use Rattle.atam.specs.TileSystem.{TileSystem}
use Rattle.tile_text.specs.declared.version.Version.{Version}
use Rattle.tile_text.specs.declared.version.Version.TheVariants.{One, Two}
use Rattle.tile_text.specs.SystemText.{ReadsAny, ReadsVersion, system_format, system_items, system_table}

-- it reads up to its own end line
to_end_line : (version : Version) (text : List ℕ) (from to : Mark) (sys : TileSystem) → ReadsVersion version text from sys to → ReadsToEndLine (system_format version) (lines_from text from) from (system_items sys) to
unfolding system_table
to_end_line version text from to sys (inl ended) = ended
to_end_line version text from to sys (inr whole) = absurd (cc (whole.complete))

module _ (front behind : List ℕ) (from to : Mark) (sys : TileSystem) (within : from.at ≤ length front) where
  version_on : (version : Version) → ReadsVersion version front from sys to → ReadsVersion version (front ++ behind) from sys to
  version_on version reads = inl (end_line_on (system_format version) front behind from within (system_items sys) to (to_end_line version front from to sys reads))

  -- and reads so in each longer text
  pub any_on : ReadsAny front from sys to → ReadsAny (front ++ behind) from sys to
  any_on (inl reads) = inl (version_on One reads)
  any_on (inr ((number, header), reads)) =
      inr ((number, header_on (system_format One) (system_format Two) front behind from to (system_items sys) number within (to_end_line Two front from to sys reads) header), version_on Two reads)

  -- whose mark is behind it
  pub any_mark_on : IsMark (front ++ behind) from → ReadsAny front from sys to → IsMark (front ++ behind) to
  any_mark_on mark (inl reads) = end_mark_on (system_format One) front behind from within (system_items sys) to mark (to_end_line One front from to sys reads)
  any_mark_on mark (inr (header, reads)) = end_mark_on (system_format Two) front behind from within (system_items sys) to mark (to_end_line Two front from to sys reads)
