use Rattle.std.proofs.Common.{◌≡◌, ◌∙◌, ap, length, arith}
use Rattle.assembly.specs.Grids.{TileGrid}
use Rattle.tilebench.proofs.Races.{race_told}
use Rattle.tilebench.proofs.commands.race.raced_of.Goals as goal

pub returns : goal.returns
returns c =
    let sys = c.args.sys.now in
    let table = c.args.grown.now in
    let grew = c.requires in
    let count : c.count.result ≡ length table.grid.tiles = c.count.ensures ∙ ap (λ (grid : TileGrid). length grid.tiles) c.grid.ensures in
    let seeds : length c.seeds.result.now ≡ length sys.seeds = ap length c.seeds.ensures.seeds in
    let total = grew.placed.total in
    race_told c.args.workers.count sys table c.in_ok-wins.wins.items _ c.args.workers.some c.args.workers.few grew
    c.in_ok-wins.ensures.wins c.in_ok-wins.ensures.together (omega (arith, count, seeds, total))
