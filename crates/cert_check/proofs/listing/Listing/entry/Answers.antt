use Rattle.std.proofs.Common.{rules, ◌∙◌, ap}
use Rattle.atam.specs.Sites.{InBox}
use Rattle.cert_check.specs.Certificates.{entry_at}
use Rattle.cert_check.specs.Inner.Listings.{EntryTable}
use Rattle.cert_check.proofs.Listings.{none_outside}
use Rattle.cert_check.proofs.listing.Listing.entry.Goals as goal

pub returns-then-not-holds : goal.returns-then-not-holds
returns-then-not-holds c =
    let outside : ¬ InBox c.self.inside.area c.args.site = search rules in
    none_outside c.self.inside.area c.self.inside.cert.now c.args.site c.self.invariant.inside outside ∙ ap (λ (t : EntryTable). entry_at t.entries c.args.site) c.self.view_is
