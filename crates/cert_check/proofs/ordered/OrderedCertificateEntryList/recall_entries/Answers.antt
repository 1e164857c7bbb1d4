use Rattle.std.proofs.Common.{◌<◌, List, All, sym, subst}
use Rattle.atam.specs.Placements.{HasDistinctSites}
use Rattle.cert_check.specs.declared.entry.Entry.{Entry}
use Rattle.cert_check.specs.Certificates.{places_of}
use Rattle.cert_check.proofs.InOrder.{in_order-places, in_order-small}
use Rattle.cert_check.proofs.ordered.OrderedCertificateEntryList.recall_entries.Goals as goal

pub returns-clause-distinct : goal.returns-clause-distinct
returns-clause-distinct c =
    let places = in_order-places c.self.inside.order c.self.inside.sides.items c.self.invariant.count in
    subst (λ (l : List Entry). HasDistinctSites (places_of l)) c.self.view_is (subst HasDistinctSites (sym places) c.self.invariant.distinct)

pub returns-clause-sides : goal.returns-clause-sides
returns-clause-sides c =
    let small = in_order-small c.self.inside.order c.self.inside.sides.items c.self.invariant.count c.self.invariant.small in
    subst (All (λ (e : Entry). e.sides < 16)) c.self.view_is small
