use Rattle.program_tests.proofs.certificates.lists.read_again.Goals as goal

pub printed-requires : goal.printed-requires
printed-requires c = c.in_ok-list.ensures.fits.types
