use Rattle.std.proofs.Common.{sym, subst}
use Rattle.atam.specs.declared.area.BoxArea.{BoxArea}
use Rattle.atam.specs.Sites.{InBox}
use Rattle.cert_check.proofs.Beside.{entry_in_box, entry_kind}
use Rattle.cert_check.proofs.Looking.{attached_by_yes, passes_looking}
use Rattle.cert_check.proofs.checks.Checker.check_anew.Goals as goal

pub entries_beside-beside-requires : goal.entries_beside-beside-requires
entries_beside-beside-requires c =
    let In : BoxArea → Type 0 = λ area. InBox area c.args.entry.place.site in
    subst In (sym c.requires.can.area) (entry_in_box c.args.self.now.sys.now c.args.self.now.listing.now.entries c.args.entry c.requires.can.fits c.requires.listed)

pub check_in_turn-requires-clause-beside : goal.check_in_turn-requires-clause-beside
check_in_turn-requires-clause-beside c = c.entries_beside-beside.ensures

pub keep-requires-clause-kind : goal.keep-requires-clause-kind
keep-requires-clause-kind c = entry_kind c.args.self.now.sys.now c.args.self.now.listing.now.entries c.args.entry c.requires.can.fits c.requires.listed

pub keep-requires-clause-passes : goal.keep-requires-clause-passes
keep-requires-clause-passes c =
    let sys = c.args.self.now.sys.now in
    let entries = c.args.self.now.listing.now.entries in
    let entry = c.args.entry in
    passes_looking sys c.args.look entries entry c.requires.looks (attached_by_yes sys entries entry c.check_in_turn.result c.in-Yes.is c.check_in_turn.ensures.verdict)
