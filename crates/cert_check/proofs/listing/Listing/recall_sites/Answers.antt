use Rattle.std.proofs.Common.{subst}
use Rattle.atam.specs.Placements.{HasDistinctSites}
use Rattle.cert_check.specs.Certificates.{places_of}
use Rattle.cert_check.specs.Inner.Listings.{EntryTable}
use Rattle.cert_check.proofs.listing.Listing.recall_sites.Goals as goal

pub returns : goal.returns
returns c = subst (λ (t : EntryTable). HasDistinctSites (places_of t.entries)) c.self.view_is c.recall_entries.ensures.distinct
