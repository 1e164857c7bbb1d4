use Rattle.atam.specs.Growth.{IsCandidate}
use Rattle.atam.proofs.Lists.{All-slice_get}
use Rattle.frontier_seat.proofs.Candidates.{has_place}
use Rattle.frontier_seat.proofs.picking.Picker.pick_listed.Goals as goal

pub get-requires : goal.get-requires
get-requires c = rw c.types.ensures (has_place c.args.sys.now c.args.grid.now.tiles c.args.site c.list_beside.new.list.listed.types c.args.picked c.list_beside.ensures.types c.requires.more)

pub returns-clause-open : goal.returns-clause-open
returns-clause-open c =
    let sys = c.args.sys.now in
    let tiles = c.args.grid.now.tiles in
    let site = c.args.site in
    let each = c.list_beside.ensures.types.each in
    All-slice_get (IsCandidate sys tiles site) c.types.result.now.types c.args.picked c.get.result (rw c.types.ensures each) c.get.ensures
