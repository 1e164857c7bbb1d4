use Rattle.std.proofs.Common.{◌≡◌, ◌-◌, ◌^◌, [], refl, sym, ◌∙◌, ap, subst}
use Rattle.atam.specs.Placements.{SamePlacements}
use Rattle.assembly.specs.Grids.{TileGrid}
use Rattle.grow_core.specs.Core.{places}
use Rattle.grow_core.specs.Steps.{IsScoutOf, IsStart}
use Rattle.grow_core.specs.Core.{state_of}
use Rattle.grow_core.proofs.Start.{start-invariant}
use Rattle.grow_core.proofs.Tables.{places-tile_of}
use Rattle.grow_core.proofs.machine.Core.make.Goals as goal

pub returns : goal.returns
returns c =
    let seeds : places c.in_ok-tiles.tiles.tiles ≡ c.args.sys.now.seeds = ap places c.in_ok-tiles.ensures.seeds ∙ places-tile_of 65535 c.args.sys.now.seeds in
    let copied : c.in_ok-copy.field-0.tiles ≡ c.grid.result.now.tiles = ap (λ (g : TileGrid). g.tiles) c.in_ok-copy.ensures in
    let seen : SamePlacements c.args.sys.now.seeds c.in_ok-copy.field-0.tiles = rw (← seeds, copied) c.grid.ensures.placements in
    let start : IsStart c.args.sys.now (state_of c.in_ok-tiles.tiles.tiles c.in_ok-scouts.scouts.scouts) = record {
      tiles = c.in_ok-tiles.ensures.seeds;
      first = c.in_ok-first.first.scout;
      seeds = subst (IsScoutOf (2 ^ 64 - 1) c.args.sys.now.seeds []) (sym c.in_ok-first.ensures.scout)
          (record { owned = refl; seen = seen; distinct = c.in_ok-first.ensures.distinct; mine = refl });
      scouts = c.in_ok-scouts.ensures.scouts;
    } in
    record {
      area = c.in_ok-tiles.ensures.area;
      start = start;
      invariant = start-invariant c.args.sys.now c.make.ensures.valid (state_of c.in_ok-tiles.tiles.tiles c.in_ok-scouts.scouts.scouts) start;
    }
