use Rattle.std.proofs.Common.{sym, subst}
use Rattle.cert_check.specs.Inner.Looks.{LookTable, AreLooks}
use Rattle.cert_check.proofs.looks.Looks.other_held.Goals as goal

pub returns-clause-known : goal.returns-clause-known
returns-clause-known c =
    let Table : LookTable → Type 0 = λ table. AreLooks c.args.sys.now table in
    let known = subst Table (sym c.self.view_is) c.requires.known in
    record { count = known.count; each = known.each; cache = c.found.ensures.known }
