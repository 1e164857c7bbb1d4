use Rattle.std.proofs.Common.{arith}
use Rattle.frontier_seat.proofs.Candidates.{open_at, open_first}
use Rattle.frontier_seat.proofs.picking.Picker.pick_found.Goals as goal

pub returns-then-found-lt2-clause-open : goal.returns-then-found-lt2-clause-open
returns-then-found-lt2-clause-open g c =
    let found = c.requires.found in
    open_first c.args.sys.now c.args.grid.now.tiles c.args.site found.types c.args.found.first found.are found.sum.first

pub returns-in-0-clause-open : goal.returns-in-0-clause-open
returns-in-0-clause-open g c =
    let found = c.requires.found in
    open_first c.args.sys.now c.args.grid.now.tiles c.args.site found.types c.args.found.first found.are found.sum.first

pub returns-in-1-clause-open : goal.returns-in-1-clause-open
returns-in-1-clause-open g c =
    let found = c.requires.found in
    open_at c.args.sys.now c.args.grid.now.tiles c.args.site found.types 1 c.args.found.second found.are (omega (arith, c.if-found-lt2.false, found.sum.count)) found.sum.second

pub pick_listed-requires-clause-more : goal.pick_listed-requires-clause-more
pick_listed-requires-clause-more g c =
    let found = c.requires.found in
    record { types = found.types; are = found.are; more = omega (arith, c.pick.ensures, found.sum.count) }

pub returns-in_default-clause-open : goal.returns-in_default-clause-open
returns-in_default-clause-open g c = c.pick_listed.ensures.open
