use Rattle.std.proofs.Common.{All, subst}
use Rattle.atam.specs.declared.area.BoxArea.{BoxArea}
use Rattle.atam.specs.Sites.{InBox}
use Rattle.atam.proofs.Canon.{producible_types}
use Rattle.assembly.specs.Grids.{TileGrid}
use Rattle.growth_tests.proofs.orders.grown_seeing.Goals as goal

pub returns-clause-fits : goal.returns-clause-fits
returns-clause-fits g c =
    let sys = c.args.sys.now in
    let grown = c.in_ok-grown.grown in
    record {
      types = producible_types sys grown.grid.tiles c.in_ok-grown.ensures.growth.full.producible;
      sites = subst (λ (a : BoxArea). All (λ p. InBox a p.site) grown.grid.tiles) c.in_ok-grown.ensures.growth.placed.area (subst (λ (g : TileGrid). All (λ p. InBox g.area p.site) g.tiles) c.grid.ensures c.recall_sites.ensures.inside);
    }
