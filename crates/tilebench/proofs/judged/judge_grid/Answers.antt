use Rattle.tilebench.proofs.Growths.{producible_fits}
use Rattle.tilebench.proofs.judged.judge_grid.Goals as goal

pub known_or_found_order-requires-clause-fits : goal.known_or_found_order-requires-clause-fits
known_or_found_order-requires-clause-fits g c κs within =
    producible_fits c.args.sys.now c.args.grid.now.area c.args.grid.now.tiles c.requires.area c.recall_sites.ensures.inside c.requires.producible

pub least_open_outside-outside-requires-clause-fits : goal.least_open_outside-outside-requires-clause-fits
least_open_outside-outside-requires-clause-fits g c =
    producible_fits c.args.sys.now c.args.grid.now.area c.args.grid.now.tiles c.requires.area c.recall_sites.ensures.inside c.requires.producible

pub judge_grown-requires-clause-grown : goal.judge_grown-requires-clause-grown
judge_grown-requires-clause-grown g c κs within =
    let whole = c.in_ok-order.ensures.order in
    record {
      legal = whole.legal;
      fits = whole.fits;
      area = c.requires.area;
      placements = whole.same;
      closed = c.requires.closed;
      index = c.requires.index;
      least = c.least_open_outside-outside.ensures;
    }
