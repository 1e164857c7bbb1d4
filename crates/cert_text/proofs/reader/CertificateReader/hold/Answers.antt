use Rattle.std.proofs.Common.{◌≡◌, ◌++◌, ◌∷◌, [], sym, subst, List}
use Rattle.cert_check.specs.declared.entry.Entry.{Entry}
use Rattle.cert_text.specs.Inner.SoFar.{AreKept}
use Rattle.cert_text.proofs.Keeping.{kept_more}
use Rattle.cert_text.proofs.reader.CertificateReader.hold.Goals as goal

pub returns-clause-kept : goal.returns-clause-kept
returns-clause-kept c =
    let d = c.args.self.now in
    let e = c.args.entry in
    let more = kept_more d.system.now d.entries.items d.grid c.put.new.self e c.requires.kept c.requires.inside c.requires.known c.requires.sides c.requires.free c.put.ensures.area c.put.ensures.here c.put.ensures.others c.put.ensures.placements in
    let added : c.push.new.self.items ≡ d.entries.items ++ e ∷ [] = c.in_ok-push.ensures.items in
    subst (λ (l : List Entry). AreKept d.system.now l c.put.new.self) (sym added) more
