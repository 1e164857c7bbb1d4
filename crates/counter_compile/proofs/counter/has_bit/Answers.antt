use Rattle.counter_compile.proofs.Bits.{bit_past}
use Rattle.counter_compile.proofs.counter.has_bit.Goals as goal

pub returns-else-position-lt64 : goal.returns-else-position-lt64
returns-else-position-lt64 c = bit_past c.args.number c.args.position c.ranges.number.fits c.if-position-lt64.false
