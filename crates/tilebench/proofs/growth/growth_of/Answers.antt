use Rattle.std.proofs.Common.{refl}
use Rattle.local_check.proofs.Verdicts.{verdict_types}
use Rattle.seq_text.proofs.NamedTypes.{open_type}
use Rattle.tilebench.proofs.Growths.{producible_fits}
use Rattle.tilebench.proofs.growth.growth_of.Goals as goal

pub returns : goal.returns
returns c =
    let sys = c.args.sys in
    let tiles = c.args.grid.now.tiles in
    let ordered = c.requires.judged.ordered in
    record {
      same = refl;
      grown = record {
        outcome_is = record {
          full = record {
            distinct = c.recall_sites.ensures.distinct;
            inside = (producible_fits sys c.args.grid.now.area tiles c.requires.area c.recall_sites.ensures.inside c.requires.producible).sites;
            producible = c.requires.producible;
            closed = c.requires.closed;
          };
          canonical = ordered.canonical;
          least = c.requires.judged.outside;
          judged = c.requires.judged.verdict;
        };
        ordered = ordered;
      };
      types = record {
        order = ordered.fits.types;
        outside = open_type sys tiles c.args.judged.outside c.requires.judged.outside;
        verdict = verdict_types sys c.args.judged.order c.args.judged.verdict c.requires.judged.verdict;
      };
    }
