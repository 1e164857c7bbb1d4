use Rattle.replay_order.proofs.by_rows.replay_by.Goals as goal

pub order_by_rows-requires-clause-can : goal.order_by_rows-requires-clause-can
order_by_rows-requires-clause-can g c κs within = record {
  valid = c.recall_valid.ensures.valid;
  area = c.requires.area;
  fits = c.requires.fits;
  distinct = c.recall_sites.ensures.distinct;
  seeded = c.if-holds_seeds.ensures.held;
}
