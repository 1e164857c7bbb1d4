use Rattle.std.proofs.Math.Nat.{le_trans}
use Rattle.std.proofs.Common.{ℕ, List, Option}
use Rattle.std.proofs.lemmas.Result.{err_from_is_err_and}
use Rattle.cert_check.specs.declared.entry.Entry.{Entry}
use Rattle.atam.specs.TileSystem.{TileSystem}
use Rattle.cert_text.specs.CertificateText.{certificate_format, ReadsCertificate}
use Rattle.tilebench.specs.Inputs.{IsSystemThen}
use Rattle.tilebench.specs.Inner.Gives.{HoldsWhole}
use Rattle.tilebench.proofs.Fronts.{blocks_stop, front_mark, front_stop, front_whole}
use Rattle.tilebench.proofs.input.system_and_certificate.Goals as goal

-- what is read of the source
Holds : Option (List ℕ) → Option (List ℕ) → TileSystem × List Entry → Type 0
Holds left left_after value = HoldsWhole (λ input (found : TileSystem × List Entry). IsSystemThen ReadsCertificate input found.0 found.1) left left_after value

pub returns-in_err-sys-clause-read : goal.returns-in_err-sys-clause-read
returns-in_err-sys-clause-read g c =
    let p = err_from_is_err_and c.from_residual.result c.from_residual.ensures.1 in
    rw (p.1, p.2) (front_stop g.S.Source.left g.S.Source.faults Holds certificate_format c.args.source.now c.front_of.new.source c.in_err-sys.field-0.0 c.in_err-sys.ensures.read)

pub read_certificate_in_blocks-requires-clause-mark : goal.read_certificate_in_blocks-requires-clause-mark
read_certificate_in_blocks-requires-clause-mark g c = front_mark g.S.Source.left c.args.source.now c.front_of.new.source c.in_ok-sys.field-0 c.in_ok-sys.ensures.read.0

pub returns-in_err-certificate-clause-read : goal.returns-in_err-certificate-clause-read
returns-in_err-certificate-clause-read g c =
    let p = err_from_is_err_and c.from_residual-in_err-certificate.result c.from_residual-in_err-certificate.ensures.1 in
    let read = c.in_ok-sys.ensures.read in
    rw (p.1, p.2) (blocks_stop g.S.Source.left g.S.Source.faults Holds certificate_format c.args.source.now c.front_of.new.source c.read_certificate_in_blocks.new.source c.in_ok-sys.field-0 c.in_err-certificate.field-0.0 read.0 read.1 c.in_err-certificate.ensures.read)

pub returns-clause-read : goal.returns-clause-read
returns-clause-read g c =
    let read = c.in_ok-sys.ensures.read in
    let front = c.in_ok-sys.field-0 in
    let found = c.in_ok-certificate.ensures.read in
    let whole = found.0.0 in
    let all = front_whole g.S.Source.left c.args.source.now c.front_of.new.source front read.0 c.read_certificate_in_blocks.new.source whole found.0.1 in
    ((whole, all.0, record { end = front.end; reads = all.1; rest = found.0.2 }), le_trans read.1 found.1)
