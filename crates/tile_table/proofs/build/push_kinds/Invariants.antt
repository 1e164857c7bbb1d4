use Rattle.std.proofs.Common.{◌≡◌, take}
use Rattle.tile_table.specs.Drafts.{draft_of}
use Rattle.tile_table.proofs.build.push_kinds.Given as goal

-- the types of the kinds so far
abbrev pub invariant-loop-kind : goal.invariant-loop-kind
invariant-loop-kind g l = l.builder ≡ draft_of (g.T.Table.tiles l.table) (g.T.Table.tiles l.table).labels (take l.kind-index l.kinds)
