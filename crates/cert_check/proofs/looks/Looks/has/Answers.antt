use Rattle.std.proofs.Common.{◌∙◌, Some, length, refl, sym, ap, subst, arith}
use Rattle.std.proofs.lemmas.Option.{slice_get_read}
use Rattle.cert_check.specs.declared.looks.Look.{Look}
use Rattle.cert_check.specs.Inner.Looks.{LookTable, PassesLooking, AreLooks}
use Rattle.cert_check.proofs.looks.Looks.has.Goals as goal

pub returns-in-Some : goal.returns-in-Some
returns-in-Some c same =
    let sys = c.args.sys.now in
    let tile = c.args.tile in
    let Table : LookTable → Type 0 = λ table. AreLooks sys table in
    let known = subst Table (sym c.self.view_is) c.requires.known in
    let items = c.self.inside.last.items in
    let read = slice_get_read items (length items) tile.0 c.index.result.now refl (omega (arith, known.count, c.requires.kind)) c.index.ensures in
    subst (λ (look : Look). PassesLooking sys tile look) (c.is_same.ensures.0 same) (known.each tile c.in-Some.last (read ∙ ap (λ o. Some o) c.in-Some.is))
