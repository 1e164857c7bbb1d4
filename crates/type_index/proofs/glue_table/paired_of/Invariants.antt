use Rattle.std.proofs.Common.{◌≡◌, ◌<◌, ℕ, length, slice_get, Some, true}
use Rattle.atam.specs.declared.place.GlueId.{GlueId}
use Rattle.atam.specs.declared.place.GluePair.{GluePair}
use Rattle.type_index.specs.PairLinks.{HasGlue}
use Rattle.type_index.proofs.glue_table.paired_of.Given as goal

-- the glues of the pairs so far are marked
abbrev pub invariant-loop-pair : goal.invariant-loop-pair
invariant-loop-pair l = record {
  count : length l.paired.items ≡ length l.sys.glues;
  each : (g : GlueId) (k : ℕ) (p : GluePair) → k < l.pair-index → slice_get l.pair-items k ≡ Some p → HasGlue g p → slice_get l.paired.items g.0 ≡ Some true;
}
