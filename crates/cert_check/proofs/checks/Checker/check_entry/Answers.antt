use Rattle.std.proofs.Common.{Option, sym, subst}
use Rattle.atam.specs.declared.area.BoxArea.{BoxArea}
use Rattle.atam.specs.declared.site.Site.{Site}
use Rattle.atam.specs.declared.place.TypeId.{TypeId}
use Rattle.atam.specs.Sites.{InBox}
use Rattle.atam.specs.Growth.{IsLeastOpenAmong}
use Rattle.cert_check.specs.Certificates.{places_of}
use Rattle.cert_check.specs.Judgement.{IsBeside}
use Rattle.cert_check.proofs.Beside.{entry_in_box}
use Rattle.cert_check.proofs.EntryVerdicts.{passes_own, entry_fault, entry_open, entry_sound}
use Rattle.cert_check.proofs.checks.Checker.check_entry.Goals as goal

pub entries_beside-beside-requires : goal.entries_beside-beside-requires
entries_beside-beside-requires c =
    let In : BoxArea → Type 0 = λ area. InBox area c.args.entry.place.site in
    subst In (sym c.requires.can.area) (entry_in_box c.args.self.now.sys.now c.args.self.now.listing.now.entries c.args.entry c.requires.can.fits c.requires.listed)

pub check_own-requires-clause-can : goal.check_own-requires-clause-can
check_own-requires-clause-can c = c.requires.can

pub check_own-requires-clause-listed : goal.check_own-requires-clause-listed
check_own-requires-clause-listed c = c.requires.listed

pub check_own-requires-clause-beside : goal.check_own-requires-clause-beside
check_own-requires-clause-beside c = c.entries_beside-beside.ensures

pub check_own-requires-clause-known : goal.check_own-requires-clause-known
check_own-requires-clause-known c = c.requires.known

pub returns-in_default-clause-verdict : goal.returns-in_default-clause-verdict
returns-in_default-clause-verdict c = entry_fault c.args.self.now.sys.now c.args.self.now.listing.now.entries c.args.entry c.check_own.result c.in_default.not-Yes c.check_own.ensures.verdict

pub returns-in_default-clause-known : goal.returns-in_default-clause-known
returns-in_default-clause-known c = c.check_own.ensures.known

pub open_beside-requires-clause-can : goal.open_beside-requires-clause-can
open_beside-requires-clause-can c = c.requires.can

pub open_beside-requires-clause-inside : goal.open_beside-requires-clause-inside
open_beside-requires-clause-inside c = entry_in_box c.args.self.now.sys.now c.args.self.now.listing.now.entries c.args.entry c.requires.can.fits c.requires.listed

pub open_beside-requires-clause-beside : goal.open_beside-requires-clause-beside
open_beside-requires-clause-beside c = c.entries_beside-beside.ensures

pub returns-in-Some-clause-verdict : goal.returns-in-Some-clause-verdict
returns-in-Some-clause-verdict c =
    let passes = passes_own c.args.self.now.sys.now c.args.self.now.listing.now.entries c.args.entry c.check_own.result c.in-Yes.is c.check_own.ensures.verdict in
    let Found : Option (Site × TypeId) → Type 0 = IsLeastOpenAmong c.args.self.now.sys.now (places_of c.args.self.now.listing.now.entries) (IsBeside c.args.entry.place.site) in
    entry_open c.args.self.now.sys.now c.args.self.now.listing.now.entries c.args.entry c.in-Some.open c.in-Some.tile passes (subst Found c.in-Some.is c.open_beside.ensures)

pub returns-in-Some-clause-known : goal.returns-in-Some-clause-known
returns-in-Some-clause-known c = c.check_own.ensures.known

pub returns-in-None-clause-verdict : goal.returns-in-None-clause-verdict
returns-in-None-clause-verdict c =
    let passes = passes_own c.args.self.now.sys.now c.args.self.now.listing.now.entries c.args.entry c.check_own.result c.in-Yes.is c.check_own.ensures.verdict in
    let Found : Option (Site × TypeId) → Type 0 = IsLeastOpenAmong c.args.self.now.sys.now (places_of c.args.self.now.listing.now.entries) (IsBeside c.args.entry.place.site) in
    entry_sound c.args.self.now.sys.now c.args.self.now.listing.now.entries c.args.entry passes (subst Found c.in-None.is c.open_beside.ensures)

pub returns-in-None-clause-known : goal.returns-in-None-clause-known
returns-in-None-clause-known c = c.check_own.ensures.known
