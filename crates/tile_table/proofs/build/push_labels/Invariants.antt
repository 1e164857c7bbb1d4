use Rattle.std.proofs.Common.{◌≡◌, [], take}
use Rattle.tile_table.specs.Drafts.{draft_of}
use Rattle.tile_table.proofs.build.push_labels.Given as goal

-- the glues of the labels so far
abbrev pub invariant-loop-label : goal.invariant-loop-label
invariant-loop-label g l = l.builder ≡ draft_of (g.T.Table.tiles l.table) (take l.label-index l.labels) []
