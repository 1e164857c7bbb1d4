use Rattle.std.proofs.Common.{◌≤◌, length, sym, arith}
use Rattle.grow_core.proofs.Stepped.{no_pull}
use Rattle.grow_core.proofs.machine.pull_of.Goals as goal

pub returns-then-tile-type_count : goal.returns-then-tile-type_count
returns-then-tile-type_count c =
    let past : length c.args.sys.now.types ≤ c.args.tile.0 = omega arith in
    sym (no_pull c.args.sys.now c.args.seen.now.tiles c.args.site c.args.tile past)
