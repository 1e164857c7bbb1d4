use Rattle.std.proofs.Common.{◌+◌, ◌*◌, refl}
use Rattle.frontier_seat.proofs.Listing.{spot_in_row}
use Rattle.frontier_seat.proofs.Looked.{caught_more}
use Rattle.frontier_seat.proofs.grower.Grower.see_row.Goals as goal

pub see-requires-clause-spot : goal.see-requires-clause-spot
see-requires-clause-spot c =
    let number = c.args.row * c.width-width.result + c.loop-column.column in
    spot_in_row c.args.lent.area c.site-site.result c.args.row c.loop-column.column c.width-width.result number c.site-site.ensures.inside c.site-site.ensures.value c.width-width.ensures refl

pub loop-column-preserved : goal.loop-column-preserved
loop-column-preserved c =
    let inv = c.loop-column.invariant in
    record {
      catches = caught_more c.args.lent.sys.now c.args.self.now c.loop-column.self c.see.new.self inv.catches c.see.ensures.catches;
      can = c.see.ensures.can;
    }
