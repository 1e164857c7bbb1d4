use Rattle.frontier_seat.proofs.Looked.{caught_more}
use Rattle.frontier_seat.proofs.grower.Grower.see_edges.Goals.{then-is_beside, else-is_beside}
use Rattle.frontier_seat.proofs.grower.Grower.see_edges.Goals as goal

pub loop-row-preserved : goal.loop-row-preserved
loop-row-preserved c =
    let inv = c.loop-row.invariant in
    elim c.if-is_beside.branch [
      | then-is_beside w ↦ rw w.self-is (record {
        catches = caught_more c.args.lent.sys.now c.args.self.now c.loop-row.self w.see_row.new.self inv.catches w.see_row.ensures.catches;
        can = w.see_row.ensures.can;
      })
      | else-is_beside w ↦ rw w.self-is inv
    ]
