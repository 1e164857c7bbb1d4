use Rattle.frontier_seat.proofs.scout.list_seeded.Goals as goal

pub list_beside_seeds-requires-clause-filling : goal.list_beside_seeds-requires-clause-filling
list_beside_seeds-requires-clause-filling c = record {
  area = c.requires.growing.area;
  distinct = c.requires.growing.distinct;
  fits = c.requires.growing.fits;
}
