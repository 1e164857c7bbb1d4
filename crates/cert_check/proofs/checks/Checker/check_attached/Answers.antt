use Rattle.std.proofs.Common.{◌∙◌, refl, sym, inl}
use Rattle.cert_check.proofs.Beside.{entry_kind}
use Rattle.cert_check.proofs.Looking.{attached_ranked}
use Rattle.cert_check.proofs.checks.Checker.check_attached.Goals as goal

pub has-requires-clause-kind : goal.has-requires-clause-kind
has-requires-clause-kind c = entry_kind c.args.self.now.sys.now c.args.self.now.listing.now.entries c.args.entry.now c.requires.can.fits c.requires.listed

pub returns-then-is_ranked-clause-verdict : goal.returns-then-is_ranked-clause-verdict
returns-then-is_ranked-clause-verdict c =
    let sys = c.args.self.now.sys.now in
    let entries = c.args.self.now.listing.now.entries in
    let entry = c.args.entry.now in
    let passes = c.has.ensures c.if-has.true entries entry refl c.of-look.ensures in
    inl (refl, attached_ranked sys entries entry c.args.beside.now c.requires.beside passes (sym c.is_ranked.ensures ∙ c.if-is_ranked.true))
