use Rattle.std.proofs.Common.{arith, ◌+◌}
use Rattle.counter_compile.specs.declared.label.Label.TheVariants.{Chain}
use Rattle.counter_compile.specs.declared.label.TheConstants.{FIXED_LABELS}
use Rattle.counter_compile.proofs.Listed.{after_range}
use Rattle.counter_compile.proofs.counter.Counter.labels.Goals as goal

pub loop-column-preserved : goal.loop-column-preserved
loop-column-preserved c = after_range FIXED_LABELS Chain 1 c.loop-column.column (c.loop-column.column + 1) _ _ c.loop-column.invariant (omega arith) c.in_ok-push.ensures.items
