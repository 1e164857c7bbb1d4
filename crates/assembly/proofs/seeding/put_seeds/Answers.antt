use Rattle.std.proofs.Common.{◌∙◌}
use Rattle.std.proofs.lemmas.Option.{slice_get-get_or}
use Rattle.assembly.proofs.Putting.{seed_empty, SamePlacements-more}
use Rattle.assembly.proofs.seeding.put_seeds.Goals as goal

pub put-requires-clause-empty : goal.put-requires-clause-empty
put-requires-clause-empty c =
    seed_empty c.seeds-seed-items.result.now c.loop-seed.grid.tiles c.loop-seed.seed-index _ c.seeds-seed-items.ensures.distinct c.loop-seed-test.true c.loop-seed.invariant.placed

pub loop-seed-preserved : goal.loop-seed-preserved
loop-seed-preserved c =
    record {
      area = c.put.ensures.area ∙ c.loop-seed.invariant.area;
      placed = SamePlacements-more c.seeds-seed-items.result.now c.loop-seed.seed-index _ c.loop-seed.grid.tiles c.put.new.self.tiles (slice_get-get_or c.seeds-seed-items.result.now c.loop-seed.seed-index _ c.loop-seed-test.true)
          c.loop-seed.invariant.placed c.put.ensures.placements;
    }
