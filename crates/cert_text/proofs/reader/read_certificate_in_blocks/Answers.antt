use Rattle.std.proofs.Common.{◌≡◌, List, sym, subst, ◌∙◌}
use Rattle.std.proofs.lemmas.Result.{err_from_is_err_and}
use Rattle.tile_io.specs.declared.fault.TextStop.TheVariants.{NoMemory}
use Rattle.tile_io.specs.Blocks.{StopsInBlocks}
use Rattle.tile_io.specs.Formats.{Reads}
use Rattle.tile_io.proofs.Inputs.{none_read}
use Rattle.atam.specs.Assembly.{Fits}
use Rattle.atam.specs.TileSystem.{TileSystem}
use Rattle.cert_check.specs.declared.entry.Entry.{Entry}
use Rattle.cert_check.specs.Certificates.{places_of}
use Rattle.cert_text.specs.CertificateText.{ReadsCertificate, certificate_format}
use Rattle.cert_text.proofs.reader.read_certificate_in_blocks.Goals as goal

pub returns-in_err-reader-clause-read : goal.returns-in_err-reader-clause-read
returns-in_err-reader-clause-read g c =
    let p = err_from_is_err_and c.from_residual.result c.from_residual.ensures.1 in
    let none : c.in_err-reader.field-0.0 ≡ NoMemory = cc c.in_err-reader.ensures.memory in
    rw (p.1, p.2, none) (none_read g.S.Source.left g.S.Source.faults (certificate_format c.args.sys.now) c.args.begun.text.items c.args.from c.args.source.now c.requires.short)

pub returns-in_err-read_text_in_blocks-clause-read : goal.returns-in_err-read_text_in_blocks-clause-read
returns-in_err-read_text_in_blocks-clause-read g c =
    let stop = c.in_err-read_text_in_blocks.field-0.0 in
    let p = err_from_is_err_and c.from_residual-in_err-read_text_in_blocks.result c.from_residual-in_err-read_text_in_blocks.ensures.1 in
    let Stops : TileSystem → Type 0 = λ s. StopsInBlocks g.S.Source.left g.S.Source.faults (certificate_format s) c.args.begun.text.items c.args.from c.args.source.now c.read_text_in_blocks.new.source stop in
    rw (p.1, p.2) (subst Stops c.in_ok-reader.ensures.system c.in_err-read_text_in_blocks.ensures.read)

pub returns-clause-read : goal.returns-clause-read
returns-clause-read g c =
    let sys = c.args.sys.now in
    let found = c.in_ok-read_text_in_blocks.ensures.read in
    let whole = found.0.0 in
    let to = found.0.2.0 in
    let into = found.0.2.1 in
    let Read : TileSystem → Type 0 = λ s. Reads (certificate_format s) whole c.args.from into.items to in
    let Exactly : List Entry → Type 0 = λ l. Reads (certificate_format sys) whole c.args.from l to in
    let Whole : List Entry → Type 0 = λ l. ReadsCertificate sys whole c.args.from l in
    let reads = subst Exactly (sym into.held.same) (subst Read c.in_ok-reader.ensures.system into.reads) in
    ((whole, found.0.1, subst Whole (sym c.of.ensures) (record { to = to; reads = reads })), found.1)

pub returns-clause-fits : goal.returns-clause-fits
returns-clause-fits g c =
    let entries = c.read_text_in_blocks.new.reader.entries.items in
    let found = c.in_ok-read_text_in_blocks.ensures.read in
    let into = found.0.2.1 in
    let Fitting : TileSystem → Type 0 = λ s. Fits s (places_of entries) in
    let Whole : List Entry → Type 0 = λ l. Fits c.args.sys.now (places_of l) in
    subst Whole (sym c.of.ensures) (subst Fitting (c.in_ok-read_text_in_blocks.ensures.context ∙ c.in_ok-reader.ensures.system) into.held.kept.fits)
