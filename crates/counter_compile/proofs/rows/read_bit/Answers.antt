use Rattle.std.proofs.Common.{◌+◌, ◌<◌, Option, IfSome, sym, subst}
use Rattle.atam.specs.declared.place.TypeId.{TypeId}
use Rattle.atam.proofs.Placements.{tile_at-all}
use Rattle.counter_compile.proofs.rows.read_bit.Goals as goal

pub kind_of-requires-clause-listed : goal.kind_of-requires-clause-listed
kind_of-requires-clause-listed c =
    subst (λ (o : Option TypeId). IfSome o (λ t. t.0 < c.args.bits + 16)) (sym c.in_ok-tile.ensures.tile)
    (tile_at-all (λ t. t.0 < c.args.bits + 16) c.args.grid.now.tiles _ c.requires.types)
