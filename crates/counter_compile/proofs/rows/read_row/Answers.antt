use Rattle.std.proofs.Common.{◌≡◌, ◌∙◌, ◌+◌, ◌*◌, ◌^◌, ◌<◌, sym, ap, subst, arith}
use Rattle.counter_compile.specs.Counters.{bit_in}
use Rattle.counter_compile.proofs.Reading.{so_far, read_none, read_more, read_gap, read_all, still_small}
use Rattle.counter_compile.proofs.rows.read_row.Goals as goal

pub loop-column-init : goal.loop-column-init
loop-column-init c = record { read = read_none (bit_in c.args.bits c.args.counter.now.start c.args.grid.now.tiles c.args.y) c.args.bits; small = omega arith }

pub loop-column-preserved : goal.loop-column-preserved
loop-column-preserved c =
    let f = bit_in c.args.bits c.args.counter.now.start c.args.grid.now.tiles c.args.y in
    let value = c.loop-column.value in
    record {
      read = c.loop-column.invariant.read ∙ read_more f c.args.bits value c.loop-column.column c.in_ok-bit.bit c.loop-column-test.true (sym c.in_ok-bit.ensures)
          ∙ ap (λ d. so_far f c.args.bits (2 * value + d) (c.loop-column.column + 1)) (sym c.digit.ensures);
      small = subst (λ d. 2 * value + d < 2 ^ (c.loop-column.column + 1)) (sym c.digit.ensures) (still_small value c.loop-column.column c.in_ok-bit.bit c.loop-column.invariant.small);
    }

pub returns-in_err-bit : goal.returns-in_err-bit
returns-in_err-bit c =
    c.from_residual.ensures
    ∙ sym (c.loop-column.invariant.read ∙ read_gap (bit_in c.args.bits c.args.counter.now.start c.args.grid.now.tiles c.args.y) c.args.bits c.loop-column.value c.loop-column.column c.loop-column-test.true (sym c.in_err-bit.ensures))

pub returns : goal.returns
returns c =
    let to_end = c.loop-column-test.false in
    let within = c.loop-column.auto.column-end in
    let all : c.loop-column.column ≡ c.args.bits = omega (arith, to_end, within) in
    let f = bit_in c.args.bits c.args.counter.now.start c.args.grid.now.tiles c.args.y in
    sym (c.loop-column.invariant.read ∙ ap (so_far f c.args.bits c.loop-column.value) all ∙ read_all f c.args.bits c.loop-column.value)
