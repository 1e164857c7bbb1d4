use Rattle.std.proofs.Common.{List, sym, subst, ◌∙◌}
use Rattle.tile_io.specs.Formats.{Reads}
use Rattle.atam.specs.Assembly.{Fits}
use Rattle.atam.specs.TileSystem.{TileSystem}
use Rattle.cert_check.specs.declared.entry.Entry.{Entry}
use Rattle.cert_check.specs.Certificates.{places_of}
use Rattle.cert_text.specs.CertificateText.{ReadsCertificate, certificate_format}
use Rattle.cert_text.proofs.reader.read_certificate.Goals as goal

pub returns-clause-read : goal.returns-clause-read
returns-clause-read c =
    let sys = c.args.sys.now in
    let into = c.in_ok-read_text.ensures.read in
    let to = c.in_ok-read_text.field-0 in
    let Read : TileSystem → Type 0 = λ s. Reads (certificate_format s) c.args.text.now c.args.from into.items to in
    let Exactly : List Entry → Type 0 = λ l. Reads (certificate_format sys) c.args.text.now c.args.from l to in
    let Whole : List Entry → Type 0 = λ l. ReadsCertificate sys c.args.text.now c.args.from l in
    let reads = subst Exactly (sym into.held.same) (subst Read c.in_ok-reader.ensures.system into.reads) in
    subst Whole (sym c.of.ensures) (record { to = to; reads = reads })

pub returns-clause-fits : goal.returns-clause-fits
returns-clause-fits c =
    let entries = c.read_text.new.reader.entries.items in
    let into = c.in_ok-read_text.ensures.read in
    let Fitting : TileSystem → Type 0 = λ s. Fits s (places_of entries) in
    let Whole : List Entry → Type 0 = λ l. Fits c.args.sys.now (places_of l) in
    subst Whole (sym c.of.ensures) (subst Fitting (c.in_ok-read_text.ensures.context ∙ c.in_ok-reader.ensures.system) into.held.kept.fits)
