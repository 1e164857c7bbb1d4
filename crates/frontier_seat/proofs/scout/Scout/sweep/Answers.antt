use Rattle.std.proofs.Common.{arith}
use Rattle.assembly.proofs.Cells.{cell_count-most}
use Rattle.frontier_seat.proofs.Looked.{ended_quiet}
use Rattle.frontier_seat.proofs.scout.Scout.sweep.Goals as goal

pub returns-clause-closed : goal.returns-clause-closed
returns-clause-closed g c =
    let fewer = c.burst.ensures.fewer in
    let cost = c.burst.ensures.cost in
    let most = cell_count-most c.args.sys.now.area c.recall_valid.ensures.valid.box in
    ended_quiet c.args.sys.now c.args.self.now c.burst.new.self 4294967295 c.burst.result (omega (arith, fewer, cost, most)) c.burst.ensures.ends

pub returns-clause-last : goal.returns-clause-last
returns-clause-last g c =
    let fewer = c.burst.ensures.fewer in
    let cost = c.burst.ensures.cost in
    let most = cell_count-most c.args.sys.now.area c.recall_valid.ensures.valid.box in
    c.burst.ensures.last (ended_quiet c.args.sys.now c.args.self.now c.burst.new.self 4294967295 c.burst.result (omega (arith, fewer, cost, most)) c.burst.ensures.ends)
