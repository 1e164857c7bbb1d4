use Rattle.std.proofs.Common.{ap}
use Rattle.grow_core.specs.Core.{places}
use Rattle.grow_core.specs.Inner.Tables.{BoxedTiles}
use Rattle.atam.proofs.Tiles.{SamePlacements-from_tiles}
use Rattle.grow_core.proofs.placed_tiles.PlacedTiles.grid.Goals as goal

pub returns-clause-placements : goal.returns-clause-placements
returns-clause-placements c =
    rw (← ap (λ (b : BoxedTiles). b.tiles) c.self.view_is)
    (SamePlacements-from_tiles (places c.self.inside.tiles.items) c.self.inside.grid.tiles c.self.invariant.distinct c.recall_sites.ensures.distinct c.self.invariant.same)
