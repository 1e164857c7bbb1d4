use Rattle.std.proofs.Common.{refl}
use Rattle.atam.proofs.Opening.{Fits-part}
use Rattle.grow_core.specs.Core.{places}
use Rattle.atam.proofs.Tiles.{same_back}
use Rattle.atam.proofs.Canon.{canonical_too}
use Rattle.tilebench.proofs.Scheduling.{core_fits}
use Rattle.tilebench.proofs.commands.schedule.schedule_of.Goals as goal

pub replay_producible-requires-clause-fits : goal.replay_producible-requires-clause-fits
replay_producible-requires-clause-fits c =
    let end = c.core_replies.new.core.state in
    Fits-part c.args.sys c.grid.result.now.tiles (places end.tiles) c.grid.ensures.tiles.whole (core_fits c.args.sys end c.in_ok-replies.ensures.invariant)

pub returns : goal.returns
returns c =
    let end = c.core_replies.new.core.state in
    let back = same_back (places end.tiles) c.grid.result.now.tiles c.grid.ensures.tiles in
    record {
      same = refl;
      replied = record {
        start = c.in_ok-core.core.state;
        starts = c.in_ok-core.ensures.start;
        end = end;
        run = c.in_ok-replies.ensures.run;
        told = c.in_ok-replies.ensures.told;
        canonical = canonical_too c.args.sys c.grid.result.now.tiles (places end.tiles) back c.in_ok-order.order c.in_ok-order.ensures.canonical;
      };
      lines = record { replies = c.in_ok-replies.ensures.told; order = c.in_ok-order.ensures.fits.types };
    }
