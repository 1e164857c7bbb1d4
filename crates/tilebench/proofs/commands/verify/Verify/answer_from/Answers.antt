use Rattle.std.proofs.Common.{List, refl}
use Rattle.std.proofs.lemmas.Result.{err_from_is_err_and}
use Rattle.atam.specs.TileSystem.{TileSystem}
use Rattle.cert_check.specs.declared.entry.Entry.{Entry}
use Rattle.cert_text.specs.CertificateLines.{NamesKnownType, verified_line}
use Rattle.tilebench.specs.declared.commands.verify.Verified.{Verified}
use Rattle.tilebench.specs.Commands.Verify.{is_verified}
use Rattle.tilebench.specs.Inputs.{IsSystemThen}
use Rattle.tilebench.specs.Inner.Gives.{HoldsWhole}
use Rattle.tilebench.proofs.Certificates.{verify_answer}
use Rattle.tilebench.proofs.Fronts.{reading_stop}
use Rattle.tilebench.proofs.commands.verify.Verify.answer_from.Goals as goal
use Rattle.tilebench.specs.Inner.CommandRows.{verify_row}
use Rattle.cert_text.specs.CertificateText.{ReadsCertificate}

pub returns-in_err-sys-clause-answer : goal.returns-in_err-sys-clause-answer
returns-in_err-sys-clause-answer g c =
    let p = err_from_is_err_and c.from_residual.result c.from_residual.ensures.1 in
    rw (p.1, p.2) (reading_stop g.S.Source.left g.S.Source.faults (λ (r : Verified). is_verified r.verdict) (λ (r : Verified). verified_line r.sys r.verdict) (λ (r : Verified). NamesKnownType r.sys r.verdict) (verify_row c.args.self.now.workers) refl
    (HoldsWhole (λ input (found : TileSystem × List Entry). IsSystemThen ReadsCertificate input found.0 found.1)) c.args.source.now c.system_and_certificate.new.source c.in_err-sys.field-0.0 c.in_err-sys.ensures.read)

pub returns-in_err-verdict-clause-answer : goal.returns-in_err-verdict-clause-answer
returns-in_err-verdict-clause-answer g c =
    let p = err_from_is_err_and c.from_residual-in_err-verdict.result c.from_residual-in_err-verdict.ensures.1 in
    rw (p.1, p.2) c.in_ok-sys.ensures.read.1

pub returns-clause-answer : goal.returns-clause-answer
returns-clause-answer g c =
    let read = c.in_ok-sys.ensures.read in
    let input = read.0.0 in (
      record {
        answer = record {
          input = input;
          whole = λ _. read.0.1;
          unread = λ no. absurd (cc no);
          answer = record {
            none = refl;
            told = (c.in_ok-sys.sys, c.in_ok-sys.certificate, read.0.2, verify_answer c.in_ok-sys.sys c.in_ok-sys.certificate c.in_ok-verdict.verdict c.in_ok-verdict.ensures.judged c.in_ok-verdict.ensures.certified);
          };
        };
        prints = c.in_ok-verdict.ensures.types;
      },
      read.1,
    )
