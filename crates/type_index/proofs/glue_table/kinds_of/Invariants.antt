use Rattle.std.proofs.Common.{◌≡◌, length, slice_get, Some}
use Rattle.atam.specs.declared.place.GlueId.{GlueId}
use Rattle.type_index.specs.declared.glue_table.GlueKind.TheVariants.{Alone}
use Rattle.type_index.specs.Indexes.{IsLone}
use Rattle.type_index.proofs.glue_table.kinds_of.Given as goal

-- each glue so far has its kind
abbrev pub invariant-loop-number : goal.invariant-loop-number
invariant-loop-number l = record {
  count : length l.kinds.items ≡ l.number;
  lone : (g : GlueId) → slice_get l.kinds.items g.0 ≡ Some Alone → IsLone l.sys g;
}
