use Rattle.tilebench.proofs.Certificates.{cert_verdict_types, yes_where_certified}
use Rattle.tilebench.proofs.commands.verify.verdict_by.Goals as goal

pub returns-clause-certified : goal.returns-clause-certified
returns-clause-certified g c =
    yes_where_certified c.args.sys.now c.args.certificate.now c.in_ok-verdict.verdict c.recall_valid.ensures.valid c.requires c.recall_entries.ensures.distinct c.in_ok-verdict.ensures

pub returns-clause-types : goal.returns-clause-types
returns-clause-types g c = cert_verdict_types c.args.sys.now c.args.certificate.now c.in_ok-verdict.verdict c.in_ok-verdict.ensures
