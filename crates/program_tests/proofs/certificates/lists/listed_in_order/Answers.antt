use Rattle.std.proofs.Common.{List, All, subst, sym}
use Rattle.atam.specs.declared.place.Place.{Place}
use Rattle.atam.specs.TileSystem.{IsType}
use Rattle.program_tests.proofs.certificates.lists.listed_in_order.Goals as goal

-- the places of the entries are those of the order
pub print_entries-requires : goal.print_entries-requires
print_entries-requires c = subst (λ (places : List Place). All (λ p. IsType c.args.sys.now p.tile) places) (sym c.in_ok-entries.ensures.certificate.places) c.requires.ordered.fits.types
