-- What may be printed of a certificate, and its text behind that of its system.
use Rattle.tile_io.specs.Lines.{first_mark}
use Rattle.std.specs.Prelude.{◌≤◌, ◌++◌, ℕ, List, All}
use Rattle.atam.specs.Assembly.{Fits}
use Rattle.atam.specs.TileSystem.{TileSystem}
use Rattle.tile_text.specs.declared.version.Version.{Version}
use Rattle.tile_text.specs.SystemText.{ReadsAny}
use Rattle.tile_text.specs.Spelling.{spelling_by, end_of_print}
use Rattle.cert_check.specs.declared.entry.Entry.{Entry}
use Rattle.cert_check.specs.Certificates.{AreEntries, places_of}
use Rattle.cert_text.specs.CertificateLines.{mark_lines}
use Rattle.cert_text.specs.CertificateText.{ReadsCertificate}

-- entries at distinct sites that fit the system, with sets of the four sides and ranks of the machine's numbers
pub record MayBePrinted (sys : TileSystem) (c : List Entry) : Type 0 where
  pub fits : Fits sys (places_of c)
  pub known : AreEntries c
  pub ranks : All (λ e. e.rank ≤ 4294967295) c

-- the lines of the entries behind the text of a version of their system
abbrev pub printed_input : Version → TileSystem → List Entry → List ℕ
printed_input version sys c = spelling_by version sys ++ mark_lines sys c

-- from its start it reads as the system, and from there to its end as the entries
pub record ReadsBack (version : Version) (sys : TileSystem) (c : List Entry) : Type 0 where
  pub system : ReadsAny (printed_input version sys c) first_mark sys (end_of_print version sys first_mark)
  pub entries : ReadsCertificate sys (printed_input version sys c) (end_of_print version sys first_mark) c
