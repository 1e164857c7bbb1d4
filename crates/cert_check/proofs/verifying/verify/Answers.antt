use Rattle.std.proofs.Common.{List, sym, subst}
use Rattle.atam.specs.Assembly.{Fits}
use Rattle.cert_check.specs.declared.entry.Entry.{Entry}
use Rattle.cert_check.specs.Certificates.{places_of}
use Rattle.cert_check.specs.Judgement.{IsFirstUnlisted, IsVerdict}
use Rattle.cert_check.proofs.Chunks.{whole_is_verdict}
use Rattle.cert_check.proofs.verifying.verify.Goals as goal

pub check_listing-requires-clause-area : goal.check_listing-requires-clause-area
check_listing-requires-clause-area g c κs within = c.in_ok-listing.ensures.area

pub check_listing-requires-clause-fits : goal.check_listing-requires-clause-fits
check_listing-requires-clause-fits g c κs within =
    subst (λ (l : List Entry). Fits c.args.sys.now (places_of l)) (sym c.in_ok-listing.ensures.entries) c.requires.fits

pub returns-in-Some : goal.returns-in-Some
returns-in-Some g c =
    subst (λ (l : List Entry). IsFirstUnlisted c.args.sys.now l c.in-Some.site) c.in_ok-listing.ensures.entries c.in-Some.ensures

pub returns : goal.returns
returns g c =
    let entries = c.in_ok-listing.listing.entries in
    subst (λ (l : List Entry). IsVerdict c.args.sys.now l c.in_ok-found.found) c.in_ok-listing.ensures.entries
    (whole_is_verdict c.args.sys.now entries c.in_ok-found.found c.in-None.ensures c.in_ok-found.ensures.verdict)
