use Rattle.std.proofs.Common.{List, All, subst, sym}
use Rattle.atam.specs.declared.place.Place.{Place}
use Rattle.atam.specs.TileSystem.{IsType}
use Rattle.program_tests.proofs.certificates.lists.listed.Goals as goal

-- the places of the entries are those of the order
pub printed-requires : goal.printed-requires
printed-requires c = subst (λ (places : List Place). All (λ p. IsType c.args.sys.now p.tile) places) (sym c.in_ok-list.ensures.certificate.places) c.requires.ordered.fits.types
