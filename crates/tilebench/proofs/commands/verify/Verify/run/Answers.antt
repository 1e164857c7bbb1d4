use Rattle.cert_text.specs.CertificateLines.{NamesKnownType, verified_line}
use Rattle.cert_text.specs.CertificateText.{certificate_format}
use Rattle.tilebench.specs.declared.commands.verify.Verified.{Verified}
use Rattle.tilebench.specs.Commands.Verify.{is_verified}
use Rattle.tilebench.specs.Inner.Readings.{taken_or_faulty}
use Rattle.tilebench.proofs.Endings.{run_ends}
use Rattle.tilebench.proofs.commands.verify.Verify.run.Goals as goal
use Rattle.tilebench.specs.Inner.CommandRows.{verify_row}

pub returns : goal.returns
returns g c =
    run_ends g.S.Source.left g.S.Source.faults g.K.Sink.written g.K.Sink.faults g.E.Sink.written g.E.Sink.faults
    (λ (r : Verified). is_verified r.verdict) (λ (r : Verified). verified_line r.sys r.verdict) (λ (r : Verified). NamesKnownType r.sys r.verdict)
    c.args.out.now c.tell.new.out c.args.err.now c.tell.new.err c.answer_from.result c.tell.result c.tell.ensures
    (verify_row c.args.self.now.workers) c.args.source.now c.answer_from.new.source (taken_or_faulty certificate_format)
    c.answer_from.ensures.answer (λ no. absurd (cc no)) (λ no. absurd (cc no)) c.answer_from.ensures.later
