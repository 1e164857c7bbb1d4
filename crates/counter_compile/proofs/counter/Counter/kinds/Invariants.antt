use Rattle.std.proofs.Common.{◌≡◌, map}
use Rattle.std.specs.List.{range_with_len}
use Rattle.counter_compile.specs.declared.kind.Kind.TheVariants.{First}
use Rattle.counter_compile.proofs.counter.Counter.kinds.Given as goal

-- those of the columns so far
abbrev pub invariant-loop-column : goal.invariant-loop-column
invariant-loop-column l = l.kinds.items ≡ map First (range_with_len 0 l.column)
