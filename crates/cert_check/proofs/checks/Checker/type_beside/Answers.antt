use Rattle.std.proofs.Common.{◌∙◌, sym}
use Rattle.atam.specs.Sites.{neighbor}
use Rattle.cert_check.proofs.Beside.{shut_by}
use Rattle.cert_check.proofs.checks.Checker.type_beside.Goals as goal

pub returns-then-is_some : goal.returns-then-is_some
returns-then-is_some c =
    shut_by c.args.self.now.sys.now c.args.self.now.listing.now.entries (neighbor c.args.site c.args.side) c.args.beside.now c.requires.beside (sym c.is_some.ensures ∙ c.if-is_some.true)
