use Rattle.job_board.proofs.Told.{full_fits, order_fits, order_legal, order_same}
use Rattle.job_board.proofs.outcome.Outcome.of.Goals as goal

pub least_open_outside-outside-requires-clause-fits : goal.least_open_outside-outside-requires-clause-fits
least_open_outside-outside-requires-clause-fits g c = full_fits c.args.sys.now c.args.grown.grid.tiles c.requires.full

pub judge_grown-requires-clause-grown : goal.judge_grown-requires-clause-grown
judge_grown-requires-clause-grown g c κs within =
    let sys = c.args.sys.now in
    let tiles = c.args.grown.grid.tiles in
    let order = c.args.grown.order in
    let seeds = c.recall_valid.ensures.valid.distinct_seeds in
    let full = c.requires.full in
    let canonical = c.requires.order in
    record {
      legal = order_legal sys tiles order seeds full canonical;
      fits = order_fits sys tiles order seeds full canonical;
      area = c.requires.area;
      placements = order_same sys tiles order seeds full canonical;
      closed = full.closed;
      index = c.requires.index;
      least = c.least_open_outside-outside.ensures;
    }

pub returns : goal.returns
returns g c = record {
  tiles = c.args.grown.grid.tiles;
  told = record {
    full = c.requires.full;
    canonical = c.requires.order;
    least = c.least_open_outside-outside.ensures;
    judged = c.in_ok-verdict.ensures;
  };
}
