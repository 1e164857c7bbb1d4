use Rattle.std.proofs.Common.{◌≡◌, ◌<◌, ◌≤◌, ℕ, length, slice_get, Some}
use Rattle.std.specs.Prelude.{slice_index}
use Rattle.atam.specs.declared.limits.TheConstants.{MOST_STRENGTH}
use Rattle.atam.specs.declared.place.GlueId.{GlueId}
use Rattle.atam.specs.declared.place.GluePair.{GluePair}
use Rattle.atam.specs.TileSystem.{strength_of}
use Rattle.type_index.specs.PairLinks.{HasGlue}
use Rattle.type_index.proofs.glue_table.mosts_of.Given as goal

-- none is above the limit, and each is at least the glue's own strength, and those of the pairs so far that have it
abbrev pub invariant-loop-pair : goal.invariant-loop-pair
invariant-loop-pair l = record {
  count : length l.mosts.items ≡ length l.sys.glues;
  bound : (g : GlueId) → g.0 < length l.sys.glues → slice_index l.mosts.items g.0 ≤ MOST_STRENGTH;
  own : (g : GlueId) → g.0 < length l.sys.glues → strength_of l.sys g ≤ slice_index l.mosts.items g.0;
  pairs : (g : GlueId) → g.0 < length l.sys.glues → (k : ℕ) (p : GluePair) → k < l.pair-index → slice_get l.pair-items k ≡ Some p → HasGlue g p → p.strength ≤ slice_index l.mosts.items g.0;
}
