use Rattle.std.proofs.Common.{◌∙◌, ◌++◌, [], ap, map, arith, suc, ◌≡◌}
use Rattle.std.specs.List.{range_with_len}
use Rattle.counter_compile.specs.declared.kind.Kind.TheVariants.{First}
use Rattle.counter_compile.specs.declared.kind.TheConstants.{LATER_KINDS}
use Rattle.counter_compile.proofs.Listed.{after_range}
use Rattle.counter_compile.proofs.counter.Counter.kinds.Goals as goal

pub loop-column-preserved : goal.loop-column-preserved
loop-column-preserved c = after_range [] First 0 c.loop-column.column c.loop-column.column _ _ c.loop-column.invariant (omega arith) c.in_ok-push.ensures.items

pub returns : goal.returns
returns c =
    let to_end = c.loop-column-test.false in
    let within = c.loop-column.auto.column-end in
    let all : c.loop-column.column ≡ suc c.args.self.now.last = omega (arith, to_end, within) in
    c.in_ok-extend_from_slice.ensures.items ∙ ap (λ l. l ++ LATER_KINDS) (c.loop-column.invariant ∙ ap (λ n. map First (range_with_len 0 n)) all)
