use Rattle.std.proofs.Common.{◌∙◌, ap}
use Rattle.atam.specs.Sites.{neighbor}
use Rattle.cert_check.specs.Certificates.{entry_at}
use Rattle.cert_check.specs.Inner.Listings.{EntryTable}
use Rattle.cert_check.proofs.Listings.{none_outside}
use Rattle.cert_check.proofs.listing.Listing.entry_beside.Goals as goal

pub returns-in-None : goal.returns-in-None
returns-in-None c =
    let m = neighbor c.args.site c.args.side in
    none_outside c.self.inside.area c.self.inside.cert.now m c.self.invariant.inside c.in-None.ensures ∙ ap (λ (t : EntryTable). entry_at t.entries m) c.self.view_is
