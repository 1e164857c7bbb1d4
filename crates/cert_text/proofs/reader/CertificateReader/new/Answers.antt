use Rattle.std.proofs.Common.{List, sym, subst, ◌∙◌}
use Rattle.cert_check.specs.declared.entry.Entry.{Entry}
use Rattle.cert_text.specs.Inner.SoFar.{AreKept}
use Rattle.cert_text.proofs.Keeping.{kept_none}
use Rattle.cert_text.proofs.reader.CertificateReader.new.Goals as goal

pub returns-clause-kept : goal.returns-clause-kept
returns-clause-kept c =
    let sys = c.args.system.now in
    let grid = c.in-Ok.grid in
    let Kept : List Entry → Type 0 = λ l. AreKept sys l grid in
    subst Kept (sym c.new.ensures.items) (kept_none sys grid (c.in-Ok.ensures.area ∙ c.area.ensures.area) c.in-Ok.ensures.empty)
