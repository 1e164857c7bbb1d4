use Rattle.std.proofs.Common.{◌<◌, arith}
use Rattle.std.proofs.lemmas.Int.{ints}
use Rattle.std.proofs.Math.Nat.{mul-pos}
use Rattle.frontier_seat.proofs.work_list.WorkList.count.Goals as goal

pub returns-clause-some : goal.returns-clause-some
returns-clause-some c =
    let columns = c.self.invariant.0.corners.columns in
    let rows = c.self.invariant.0.corners.rows in
    let wide : 0 < c.width.result = let width = c.width.ensures in omega (arith, ints, columns, width) in
    let high : 0 < c.height.result = let height = c.height.ensures in omega (arith, ints, rows, height) in
    let some = mul-pos {m = c.width.result} {n = c.height.result} wide high in
    omega (arith, some)
