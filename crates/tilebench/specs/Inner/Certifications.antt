-- What the program says of a certificate, or of what stands in its place.
use Rattle.std.specs.Prelude.{◌≡◌, ℕ, Bool, true, false, List}
use Rattle.atam.specs.declared.place.Place.{Place}
use Rattle.atam.specs.TileSystem.{TileSystem}
use Rattle.seq_text.specs.VerdictLines.{verdict_line}
use Rattle.cert_text.specs.CertificateLines.{mark_lines}
use Rattle.tilebench.specs.declared.commands.certify.Certification.{Certification}
use Rattle.tilebench.specs.declared.commands.certify.Certification.TheVariants.{Given, Refuted, Unordered}
use Rattle.tilebench.specs.Commands.Certify.{IsCertificateOfTiles, IsRefutedBy}
use Rattle.tilebench.specs.Inner.Reorderings.{IsReordering, is_whole, reordering_text}

-- the certificate of the canonical order; or the verdict that it has none; or what keeps the tiles from having an order
abbrev pub IsCertification : TileSystem → List Place → Certification → Type 0
IsCertification sys tiles (Given entries) = IsCertificateOfTiles sys tiles entries
IsCertification sys tiles (Refuted verdict) = IsRefutedBy sys tiles verdict
IsCertification sys tiles (Unordered reordering) = IsReordering sys tiles reordering × (is_whole reordering ≡ false)

-- its text
abbrev pub certification_text : TileSystem → Certification → List ℕ
certification_text sys (Given entries) = mark_lines sys entries
certification_text sys (Refuted verdict) = verdict_line sys verdict
certification_text sys (Unordered reordering) = reordering_text sys reordering

-- it is a yes where there is a certificate
abbrev pub is_given : Certification → Bool
is_given (Given entries) = true
is_given _ = false
