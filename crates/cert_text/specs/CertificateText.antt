-- The text of a certificate: what each kept line is, and which checks it has to pass. It follows a system text, and names the types of that system.
use Rattle.std.specs.Prelude.{ℕ, ◌==◌, true, is_none, List, [], ◌∷◌, codes, position, bytes_eq, ok_or, Ok}
use Rattle.tile_io.specs.declared.fault.Cause.TheVariants.{BadName, OutsideBox, DoubleSite}
use Rattle.tile_io.specs.declared.mark.Mark.{Mark}
use Rattle.tile_io.specs.Formats.{Format, Reads}
use Rattle.tile_io.specs.Checks.{◌>>=◌, require, field, count_in, Keyword, Table, table_of_lines, table_format, row}
use Rattle.atam.specs.Placements.{tile_at}
use Rattle.atam.specs.TileSystem.{TileSystem}
use Rattle.tile_text.specs.Fields.{place_field}
use Rattle.tile_text.specs.SystemText.{is_in_box}
use Rattle.seq_text.specs.GrowthText.{names_of}
use Rattle.cert_check.specs.declared.entry.Entry.{Entry}
use Rattle.cert_check.specs.Certificates.{places_of}
use Rattle.cert_text.specs.CertificateLines.{side_words}

-- The row of the table: the place, the word of its stated sides, as it is printed, and the rank.
-- The lines stand in any order, the site is in the box, and no earlier entry has it.
abbrev pub mark_row : TileSystem → Keyword (List Entry) Entry
mark_row sys =
    row (codes "mark") (λ n. n == 6) (λ before. true) (λ earlier words. true) (λ earlier words. do
      p ← place_field (names_of sys) (field words 1) (field words 2) (field words 3)
      sides ← ok_or (position (bytes_eq (field words 4)) side_words) BadName
      rank ← count_in 0 4294967295 (field words 5)
      _ ← require (is_in_box sys.area p.site) OutsideBox
      _ ← require (is_none (tile_at (places_of earlier) p.site)) DoubleSite
      Ok (record { place = p; sides = sides; rank = rank }))

-- the table of the certificate texts of a system: there is no header and no end line, and the input may end after any line
unfoldable pub certificate_table : TileSystem → Table Entry
certificate_table sys = table_of_lines (mark_row sys ∷ [])

abbrev pub certificate_format : TileSystem → Format Entry
certificate_format sys = table_format (certificate_table sys)

-- the text from a mark on, up to its end, reads as exactly these entries
pub record ReadsCertificate (sys : TileSystem) (text : List ℕ) (from : Mark) (entries : List Entry) : Type 0 where
  pub to : Mark
  pub reads : Reads (certificate_format sys) text from entries to
