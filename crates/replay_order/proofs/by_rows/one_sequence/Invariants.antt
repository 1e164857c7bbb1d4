use Rattle.std.proofs.Common.{ℕ, suc, ◌*◌}
use Rattle.atam.specs.Sites.{width_of}
use Rattle.atam.specs.TileSystem.{TileSystem}
use Rattle.assembly.specs.Grids.{TileGrid}
use Rattle.fan_out.specs.Portions.{InARow}
use Rattle.replay_order.specs.Inner.Rows.{ListsRows}
use Rattle.replay_order.specs.Inner.Spans.{IsListedBehind, CanList}
use Rattle.replay_order.proofs.by_rows.one_sequence.Given as goal

-- the rows before some row are listed, and those of the other workers follow
abbrev pub invariant-loop-part : goal.invariant-loop-part
invariant-loop-part l =
    (sys : TileSystem) (grid : TileGrid) (end : ℕ) → CanList sys grid → InARow (ListsRows sys grid) 0 0 end l.fn.parts.items →
    (worker middle : ℕ) × IsListedBehind sys grid.tiles 0 (middle * width_of sys.area) sys.seeds l.order
    × InARow (ListsRows sys grid) (suc worker) middle end l.part-iterator.rest.items
