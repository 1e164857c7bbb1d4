use Rattle.std.proofs.Common.{◌∙◌, true≢false, sym, subst}
use Rattle.atam.specs.declared.area.BoxArea.{BoxArea}
use Rattle.atam.specs.Sites.{InBox}
use Rattle.cert_check.specs.Certificates.{IsSeed}
use Rattle.cert_check.proofs.Beside.{entry_in_box}
use Rattle.cert_check.proofs.EntryChecks.{seed_is, seed_at}
use Rattle.cert_check.proofs.EntryVerdicts.{own_attached, own_bare, own_stated}
use Rattle.cert_check.proofs.checks.Checker.check_own.Goals as goal

pub is_seed-requires-clause-area : goal.is_seed-requires-clause-area
is_seed-requires-clause-area c = c.requires.can.grid ∙ sym c.requires.can.area

pub is_seed-requires-clause-inside : goal.is_seed-requires-clause-inside
is_seed-requires-clause-inside c =
    let In : BoxArea → Type 0 = λ area. InBox area c.args.entry.now.place.site in
    subst In (sym c.requires.can.area) (entry_in_box c.args.self.now.sys.now c.args.self.now.listing.now.entries c.args.entry.now c.requires.can.fits c.requires.listed)

pub check_attached-requires-clause-can : goal.check_attached-requires-clause-can
check_attached-requires-clause-can c = c.requires.can

pub check_attached-requires-clause-listed : goal.check_attached-requires-clause-listed
check_attached-requires-clause-listed c = c.requires.listed

pub check_attached-requires-clause-beside : goal.check_attached-requires-clause-beside
check_attached-requires-clause-beside c = c.requires.beside

pub check_attached-requires-clause-known : goal.check_attached-requires-clause-known
check_attached-requires-clause-known c = c.requires.known

pub check_attached-requires-clause-attached : goal.check_attached-requires-clause-attached
check_attached-requires-clause-attached c =
    let can = c.requires.can in
    let no_seed : ¬ IsSeed c.args.self.now.sys.now c.args.entry.now = λ seed.
    true≢false (sym (c.is_seed.ensures.1 (seed_at c.args.self.now.sys.now c.args.self.now.seeds.now.tiles c.args.entry.now.place can.valid.distinct_seeds can.seeded seed)) ∙ c.if-not-is_seed.true)
    in
    no_seed

pub returns-then-not-is_seed-clause-verdict : goal.returns-then-not-is_seed-clause-verdict
returns-then-not-is_seed-clause-verdict c =
    let can = c.requires.can in
    let no_seed : ¬ IsSeed c.args.self.now.sys.now c.args.entry.now = λ seed.
    true≢false (sym (c.is_seed.ensures.1 (seed_at c.args.self.now.sys.now c.args.self.now.seeds.now.tiles c.args.entry.now.place can.valid.distinct_seeds can.seeded seed)) ∙ c.if-not-is_seed.true)
    in
    own_attached c.args.self.now.sys.now c.args.self.now.listing.now.entries c.args.entry.now c.check_attached.result no_seed c.check_attached.ensures.verdict

pub returns-then-not-is_seed-clause-known : goal.returns-then-not-is_seed-clause-known
returns-then-not-is_seed-clause-known c = c.check_attached.ensures.known

pub returns-then-states_none-clause-verdict : goal.returns-then-states_none-clause-verdict
returns-then-states_none-clause-verdict c =
    let can = c.requires.can in
    let seed = seed_is c.args.self.now.sys.now c.args.self.now.seeds.now.tiles c.args.entry.now.place can.valid.distinct_seeds can.seeded (c.is_seed.ensures.0 c.if-not-is_seed.false) in
    own_bare c.args.self.now.sys.now c.args.self.now.listing.now.entries c.args.entry.now seed (c.states_none.ensures.0 c.if-states_none.true)

pub returns-then-states_none-clause-known : goal.returns-then-states_none-clause-known
returns-then-states_none-clause-known c = c.requires.known

pub returns-else-states_none-clause-verdict : goal.returns-else-states_none-clause-verdict
returns-else-states_none-clause-verdict c =
    let can = c.requires.can in
    let seed = seed_is c.args.self.now.sys.now c.args.self.now.seeds.now.tiles c.args.entry.now.place can.valid.distinct_seeds can.seeded (c.is_seed.ensures.0 c.if-not-is_seed.false) in
    own_stated c.args.self.now.sys.now c.args.self.now.listing.now.entries c.args.entry.now seed (λ none. true≢false (sym (c.states_none.ensures.1 none) ∙ c.if-states_none.false))

pub returns-else-states_none-clause-known : goal.returns-else-states_none-clause-known
returns-else-states_none-clause-known c = c.requires.known
