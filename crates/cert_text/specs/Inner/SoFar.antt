-- What the reader of a certificate holds of the lines that it took.
use Rattle.std.specs.Prelude.{◌≡◌, List}
use Rattle.tile_io.specs.Checks.{Keyword}
use Rattle.atam.specs.Assembly.{Fits}
use Rattle.atam.specs.TileSystem.{TileSystem}
use Rattle.assembly.specs.Grids.{TileGrid}
use Rattle.seq_text.specs.Inner.SoFar.{IsScratchOf}
use Rattle.cert_check.specs.declared.entry.Entry.{Entry}
use Rattle.cert_check.specs.Certificates.{AreEntries, places_of}
use Rattle.cert_text.specs.declared.keyword.LineKind.{LineKind}
use Rattle.cert_text.specs.declared.keyword.LineKind.TheVariants.{Mark}
use Rattle.cert_text.specs.CertificateText.{mark_row}

-- the row of a keyword in the table
abbrev pub row_of : TileSystem → LineKind → Keyword (List Entry) Entry
row_of sys Mark = mark_row sys

-- entries of a certificate that fit the system, and a grid of their tiles over its box
pub record AreKept (sys : TileSystem) (entries : List Entry) (grid : TileGrid) : Type 0 where
  pub known : AreEntries entries
  pub fits : Fits sys (places_of entries)
  pub scratch : IsScratchOf sys (places_of entries) grid

-- exactly those of the lines
pub record HoldsEntries (sys : TileSystem) (entries : List Entry) (grid : TileGrid) (items : List Entry) : Type 0 where
  pub same : entries ≡ items
  pub kept : AreKept sys entries grid
