use Rattle.std.proofs.Common.{◌≡◌, ◌++◌, map}
use Rattle.std.specs.List.{range_with_len}
use Rattle.counter_compile.specs.declared.label.Label.TheVariants.{Chain}
use Rattle.counter_compile.specs.declared.label.TheConstants.{FIXED_LABELS}
use Rattle.counter_compile.proofs.counter.Counter.labels.Given as goal

-- those with bits, and those of the columns so far
abbrev pub invariant-loop-column : goal.invariant-loop-column
invariant-loop-column l = l.labels.items ≡ FIXED_LABELS ++ map Chain (range_with_len 1 l.column)
