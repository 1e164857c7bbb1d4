use Rattle.std.proofs.Common.{◌≡◌, map, take}
use Rattle.grow_core.specs.Steps.{tile_of}
use Rattle.grow_core.proofs.placed_tiles.PlacedTiles.make.Given as goal

-- the seeds so far stand there
abbrev pub invariant-loop-seed : goal.invariant-loop-seed
invariant-loop-seed l = record {
  area : l.placed.area ≡ l.sys.area;
  tiles : l.placed.tiles ≡ map (λ p. tile_of p 65535) (take l.seed-index l.seed-items);
}
