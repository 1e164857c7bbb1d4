use Rattle.std.proofs.Common.{◌≡◌, ◌<◌, ℕ, Some}
use Rattle.std.specs.Prelude.{slice_get}
use Rattle.atam.specs.declared.place.Place.{Place}
use Rattle.atam.specs.Placements.{tile_at}
use Rattle.tilebench.proofs.reordering.missing_seed.Given as goal

-- the seeds so far are there
abbrev pub invariant-loop-seed : goal.invariant-loop-seed
invariant-loop-seed l = record {
  held : (k : ℕ) (p : Place) → k < l.seed-index → slice_get l.sys.seeds k ≡ Some p → tile_at l.grid.tiles p.site ≡ Some p.tile;
}
