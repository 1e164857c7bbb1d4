use Rattle.std.proofs.Common.{◌∙◌, option_map, sym, ap, subst}
use Rattle.atam.specs.Placements.{HasDistinctSites}
use Rattle.cert_check.specs.declared.entry.Entry.{Entry}
use Rattle.cert_check.specs.Certificates.{places_of}
use Rattle.cert_check.specs.Inner.Listings.{EntryTable}
use Rattle.cert_check.proofs.Listings.{tile_at-entry}
use Rattle.cert_check.proofs.listing.ListingPlaced.at.Goals as goal

pub returns-clause-tile : goal.returns-clause-tile
returns-clause-tile c = c.tile_of.ensures ∙ ap (option_map (λ (e : Entry). e.place.tile)) c.entry.ensures ∙ sym (tile_at-entry c.args.self.now.entries c.args.site)

pub returns-clause-distinct : goal.returns-clause-distinct
returns-clause-distinct c = subst (λ (t : EntryTable). HasDistinctSites (places_of t.entries)) c.self.view_is c.recall_entries.ensures.distinct
