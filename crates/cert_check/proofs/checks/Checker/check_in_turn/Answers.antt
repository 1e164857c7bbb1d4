use Rattle.std.proofs.Common.{◌∙◌, Some, None, refl, sym, subst, inl, inr}
use Rattle.attach_rule.specs.declared.facing.FacingGlues.{FacingGlues}
use Rattle.type_index.specs.HeldTypes.{FirstHeldBut}
use Rattle.cert_check.specs.Certificates.{IsHeldExactly, places_of}
use Rattle.cert_check.proofs.Beside.{entry_near, entry_kind, stand_beside}
use Rattle.cert_check.proofs.EntryChecks.{held_throughout, not_held, sum_is, first_loose_is, none_loose, least_rival_is, no_rival_is}
use Rattle.cert_check.proofs.checks.Checker.check_in_turn.Goals as goal

pub glues_beside-glues-requires-clause-near : goal.glues_beside-glues-requires-clause-near
glues_beside-glues-requires-clause-near c = entry_near c.args.self.now.sys.now c.args.self.now.listing.now.entries c.args.entry.now c.requires.can.fits c.requires.listed c.requires.can.valid

pub glues_beside-glues-requires-clause-fits : goal.glues_beside-glues-requires-clause-fits
glues_beside-glues-requires-clause-fits c = c.requires.can.fits

pub glues_beside-glues-requires-clause-beside : goal.glues_beside-glues-requires-clause-beside
glues_beside-glues-requires-clause-beside c =
    stand_beside c.args.self.now.listing.now.entries c.args.entry.now.place.site c.args.beside.now c.tiles.result c.requires.beside
    c.tiles.ensures.north c.tiles.ensures.east c.tiles.ensures.south c.tiles.ensures.west

pub bonds-bonds-requires-clause-index : goal.bonds-bonds-requires-clause-index
bonds-bonds-requires-clause-index c = c.requires.can.index

pub bonds-bonds-requires-clause-kind : goal.bonds-bonds-requires-clause-kind
bonds-bonds-requires-clause-kind c = entry_kind c.args.self.now.sys.now c.args.self.now.listing.now.entries c.args.entry.now c.requires.can.fits c.requires.listed

pub returns-then-not-is_held-clause-verdict : goal.returns-then-not-is_held-clause-verdict
returns-then-not-is_held-clause-verdict c =
    let sys = c.args.self.now.sys.now in
    let entries = c.args.self.now.listing.now.entries in
    let entry = c.args.entry.now in
    let beside = c.args.beside.now in
    let bonds = c.bonds-bonds.result in
    let are = c.bonds-bonds.ensures.bonds (places_of entries) entry.place.site c.glues_beside-glues.ensures.faces in
    inr (refl, c.requires.attached, not_held sys entries entry beside c.requires.beside bonds are c.recall_sites.ensures (sym c.is_held.ensures ∙ c.if-not-is_held.true))

pub returns-then-not-is_held-clause-known : goal.returns-then-not-is_held-clause-known
returns-then-not-is_held-clause-known c = c.requires.known

pub stated_sum-sum-requires : goal.stated_sum-sum-requires
stated_sum-sum-requires c = c.bonds-bonds.ensures.bound

pub returns-then-sum-tau-clause-verdict : goal.returns-then-sum-tau-clause-verdict
returns-then-sum-tau-clause-verdict c =
    let sys = c.args.self.now.sys.now in
    let entries = c.args.self.now.listing.now.entries in
    let entry = c.args.entry.now in
    let beside = c.args.beside.now in
    let bonds = c.bonds-bonds.result in
    let are = c.bonds-bonds.ensures.bonds (places_of entries) entry.place.site c.glues_beside-glues.ensures.faces in
    let held = held_throughout sys entries entry beside c.requires.beside bonds are (sym c.is_held.ensures ∙ c.if-not-is_held.false) in
    let sum = c.stated_sum-sum.ensures ∙ sum_is sys entries entry beside c.requires.beside bonds are in
    let not_exact : ¬ IsHeldExactly sys entries entry = λ exact. c.if-sum-tau.true (sum ∙ exact ∙ sym c.tau.ensures.tau) in
    inr (refl, c.requires.attached, held, not_exact, sym sum)

pub returns-then-sum-tau-clause-known : goal.returns-then-sum-tau-clause-known
returns-then-sum-tau-clause-known c = c.requires.known

pub returns-in-Some-clause-verdict : goal.returns-in-Some-clause-verdict
returns-in-Some-clause-verdict c =
    let sys = c.args.self.now.sys.now in
    let entries = c.args.self.now.listing.now.entries in
    let entry = c.args.entry.now in
    let beside = c.args.beside.now in
    let bonds = c.bonds-bonds.result in
    let are = c.bonds-bonds.ensures.bonds (places_of entries) entry.place.site c.glues_beside-glues.ensures.faces in
    let held = held_throughout sys entries entry beside c.requires.beside bonds are (sym c.is_held.ensures ∙ c.if-not-is_held.false) in
    let exact : IsHeldExactly sys entries entry =
    sym (sum_is sys entries entry beside c.requires.beside bonds are) ∙ sym c.stated_sum-sum.ensures ∙ c.if-sum-tau.false ∙ c.tau.ensures.tau
    in
    let first = first_loose_is sys entries entry beside c.requires.beside bonds are c.in-Some.side (sym c.first_loose.ensures ∙ c.in-Some.is) in
    inr (refl, c.requires.attached, held, exact, first)

pub returns-in-Some-clause-known : goal.returns-in-Some-clause-known
returns-in-Some-clause-known c = c.requires.known

pub returns-in-Some-other_held-clause-verdict : goal.returns-in-Some-other_held-clause-verdict
returns-in-Some-other_held-clause-verdict c =
    let sys = c.args.self.now.sys.now in
    let entries = c.args.self.now.listing.now.entries in
    let entry = c.args.entry.now in
    let beside = c.args.beside.now in
    let bonds = c.bonds-bonds.result in
    let are = c.bonds-bonds.ensures.bonds (places_of entries) entry.place.site c.glues_beside-glues.ensures.faces in
    let held = held_throughout sys entries entry beside c.requires.beside bonds are (sym c.is_held.ensures ∙ c.if-not-is_held.false) in
    let exact : IsHeldExactly sys entries entry =
    sym (sum_is sys entries entry beside c.requires.beside bonds are) ∙ sym c.stated_sum-sum.ensures ∙ c.if-sum-tau.false ∙ c.tau.ensures.tau
    in
    let no_loose = none_loose sys entries entry beside c.requires.beside bonds are (sym c.first_loose.ensures ∙ c.in_default.is) in
    let First : FacingGlues → Type 0 = λ glues. FirstHeldBut sys glues entry.place.tile (Some c.in-Some-other_held.rival) in
    let first = subst First c.kept_glues-kept.ensures c.in-Some-other_held.ensures.held in
    let rival = least_rival_is sys entries entry beside c.requires.beside c.glues_beside-glues.result c.glues_beside-glues.ensures.faces c.in-Some-other_held.rival first in
    inr (refl, c.requires.attached, held, exact, no_loose, rival)

pub returns-in-Some-other_held-clause-known : goal.returns-in-Some-other_held-clause-known
returns-in-Some-other_held-clause-known c = c.other_held.ensures.known

pub returns-in-None-clause-verdict : goal.returns-in-None-clause-verdict
returns-in-None-clause-verdict c =
    let sys = c.args.self.now.sys.now in
    let entries = c.args.self.now.listing.now.entries in
    let entry = c.args.entry.now in
    let beside = c.args.beside.now in
    let bonds = c.bonds-bonds.result in
    let are = c.bonds-bonds.ensures.bonds (places_of entries) entry.place.site c.glues_beside-glues.ensures.faces in
    let held = held_throughout sys entries entry beside c.requires.beside bonds are (sym c.is_held.ensures ∙ c.if-not-is_held.false) in
    let exact : IsHeldExactly sys entries entry =
    sym (sum_is sys entries entry beside c.requires.beside bonds are) ∙ sym c.stated_sum-sum.ensures ∙ c.if-sum-tau.false ∙ c.tau.ensures.tau
    in
    let no_loose = none_loose sys entries entry beside c.requires.beside bonds are (sym c.first_loose.ensures ∙ c.in_default.is) in
    let First : FacingGlues → Type 0 = λ glues. FirstHeldBut sys glues entry.place.tile (None) in
    let first = subst First c.kept_glues-kept.ensures c.in-None.ensures.held in
    let no_rival = no_rival_is sys entries entry beside c.requires.beside c.glues_beside-glues.result c.glues_beside-glues.ensures.faces first in
    inl (refl, (held, exact, no_loose, no_rival))

pub returns-in-None-clause-known : goal.returns-in-None-clause-known
returns-in-None-clause-known c = c.other_held.ensures.known
