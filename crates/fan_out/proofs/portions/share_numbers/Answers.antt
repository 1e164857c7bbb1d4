use Rattle.std.proofs.Common.{arith}
use Rattle.fan_out.proofs.InARow.{accepts_row, done_row}
use Rattle.fan_out.proofs.portions.share_numbers.Goals as goal

pub share_out-requires-after_bounds : goal.share_out-requires-after_bounds
share_out-requires-after_bounds g c κs within =
    accepts_row g.F.Fn c.args.work.now 0 0 c.args.end c.args.end c.in_ok-portions.portions.items c.in_ok-portions.ensures.each (omega arith) c.requires.accepts

pub returns-clause-each : goal.returns-clause-each
returns-clause-each g c =
    done_row g.F.Fn c.args.work.now 0 0 c.args.end c.in_ok-portions.portions.items c.in_ok-done.done.items c.in_ok-done.ensures.count c.in_ok-portions.ensures.each
    (λ i e below. (c.in_ok-done.ensures.each i e below).1)
