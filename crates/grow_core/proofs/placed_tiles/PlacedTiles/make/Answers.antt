use Rattle.grow_core.proofs.Tables.{next_empty}
use Rattle.grow_core.proofs.placed_tiles.PlacedTiles.make.Goals as goal

pub put-requires-clause-inside : goal.put-requires-clause-inside
put-requires-clause-inside c = rw c.loop-seed.invariant.area (c.seeds-seed-items.ensures.fits.sites c.loop-seed.seed-index _ c.loop-seed-test.true)

pub put-requires-clause-empty : goal.put-requires-clause-empty
put-requires-clause-empty c =
    next_empty c.loop-seed.placed.tiles c.seeds-seed-items.result.now c.loop-seed.seed-index 65535 _ c.seeds-seed-items.ensures.distinct c.loop-seed-test.true c.loop-seed.invariant.tiles
