use Rattle.cert_check.proofs.verifying.check_listing.Goals as goal

pub check_all-requires-clause-can : goal.check_all-requires-clause-can
check_all-requires-clause-can g c κs within = record {
  valid = c.recall_valid.ensures.valid;
  area = c.requires.area;
  fits = c.requires.fits;
  grid = c.in_ok-seeds.ensures.area;
  seeded = c.in_ok-seeds.ensures.seeds;
  index = c.in_ok-types.ensures;
}
