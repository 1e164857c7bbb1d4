use Rattle.cert_check.specs.Certificates.{AreEntries}
use Rattle.tilebench.proofs.Certificates.{certificate_given, certificate_types, refuted_given}
use Rattle.local_check.proofs.Verdicts.{verdict_types}
use Rattle.tilebench.proofs.commands.certify.certification_with.Goals as goal

pub returns-in_ok-certificate-in-Yes-clause-certified : goal.returns-in_ok-certificate-in-Yes-clause-certified
returns-in_ok-certificate-in-Yes-clause-certified c =
    let certificate = c.in_ok-certificate-in-Yes.certificate in
    let known : AreEntries certificate = record { distinct = c.recall_entries.ensures.distinct; sides = c.recall_entries.ensures.sides } in
    certificate_given c.args.sys.now c.args.grid.now.tiles c.args.order c.judge.result certificate c.recall_valid.ensures.valid c.requires.ordered c.judge.ensures c.in-Yes.is
    c.in_ok-certificate-in-Yes.ensures.certificate known c.in_ok-certificate-in-Yes.ensures.good

pub returns-in_ok-certificate-in-Yes-clause-types : goal.returns-in_ok-certificate-in-Yes-clause-types
returns-in_ok-certificate-in-Yes-clause-types c =
    certificate_types c.args.sys.now c.args.grid.now.tiles c.args.order c.in_ok-certificate-in-Yes.certificate c.requires.ordered c.in_ok-certificate-in-Yes.ensures.certificate

-- what isn't a yes
pub returns-in_default : goal.returns-in_default
returns-in_default c = record {
  certified = refuted_given c.args.sys.now c.args.grid.now.tiles c.args.order c.judge.result c.requires.ordered c.judge.ensures c.in_default.not-Yes;
  types = verdict_types c.args.sys.now c.args.order c.judge.result c.judge.ensures;
}
