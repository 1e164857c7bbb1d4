use Rattle.std.proofs.Common.{◌≡◌, ◌≤◌, ◌<◌, ◌^◌, ◌+◌, ◌*◌, true, false, length, get_or, sym, ap, ◌∙◌, arith, below_more}
use Rattle.tile_io.specs.Checks.{is_digit}
use Rattle.tile_io.proofs.Digits.{digit_bounds, small_more}
use Rattle.tile_io.proofs.FrontDigits.{value_none, value_more, small_digits, digits_before, no_digits_at, no_digits_to}
use Rattle.tile_io.proofs.number.digits_among.Goals as goal

pub loop-index-init : goal.loop-index-init
loop-index-init c = record { within = omega arith; few = omega arith; digits = λ k less. absurd (omega (arith, less)); value = value_none c.args.bytes.now; small = omega arith }

pub returns-then-index-gt0-clause-starts : goal.returns-then-index-gt0-clause-starts
returns-then-index-gt0-clause-starts c =
    let i = c.loop-index.index in
    let before = c.loop-index.invariant in
    let some : 0 < c.loop-index.index = omega (arith, c.if-index-gt0.true) in
    let few : c.loop-index.index ≤ c.args.most = omega (arith, c.loop-index-test.true, c.requires.count) in
    let within : c.loop-index.index < length c.args.bytes.now = omega (arith, c.loop-index-test.true, c.requires.count) in
    digits_before c.args.end c.args.most c.args.bytes.now i c.loop-index.number some few c.requires.fits within c.if-byte-end.true before.digits before.value

pub returns-then-index-gt0-clause-small : goal.returns-then-index-gt0-clause-small
returns-then-index-gt0-clause-small c = small_digits c.loop-index.number c.loop-index.index c.args.most c.loop-index.invariant.small (omega (arith, c.loop-index-test.true, c.requires.count))

pub overflow_mul-number : goal.overflow_mul-number
overflow_mul-number c =
    let few : c.loop-index.index ≤ 8 = omega (arith, c.loop-index-test.true, c.requires.count, c.requires.fits) in
    let small : c.loop-index.number < 10 ^ 8 = small_digits c.loop-index.number c.loop-index.index 8 c.loop-index.invariant.small few in
    omega (arith, small)

pub overflow_add-number : goal.overflow_add-number
overflow_add-number c =
    let few : c.loop-index.index ≤ 8 = omega (arith, c.loop-index-test.true, c.requires.count, c.requires.fits) in
    let small : c.loop-index.number < 10 ^ 8 = small_digits c.loop-index.number c.loop-index.index 8 c.loop-index.invariant.small few in
    let digit : is_digit (get_or c.args.bytes.now c.loop-index.index 0) ≡ true = sym c.is_digit.ensures ∙ c.if-not-is_digit.false in
    let most : get_or c.args.bytes.now c.loop-index.index 0 ≤ 57 = (digit_bounds _ digit).1 in
    omega (arith, small, most, c.from.ensures)

pub loop-index-preserved : goal.loop-index-preserved
loop-index-preserved c =
    let i = c.loop-index.index in
    let before = c.loop-index.invariant in
    let few : c.loop-index.index ≤ c.args.most = omega (arith, c.loop-index-test.true, c.requires.count) in
    let within : c.loop-index.index < length c.args.bytes.now = omega (arith, c.loop-index-test.true, c.requires.count) in
    let digit : is_digit (get_or c.args.bytes.now c.loop-index.index 0) ≡ true = sym c.is_digit.ensures ∙ c.if-not-is_digit.false in
    let most : get_or c.args.bytes.now c.loop-index.index 0 ≤ 57 = (digit_bounds _ digit).1 in
    record {
      within = omega (arith, within);
      few = omega (arith, few);
      digits = below_more _ _ before.digits digit;
      value = value_more c.args.bytes.now i c.loop-index.number within before.value ∙ ap (λ d. 10 * c.loop-index.number + d) (sym c.from.ensures);
      small = small_more c.loop-index.number i c.from.result before.small (omega (arith, most, c.from.ensures));
    }

pub returns-then-not-is_digit-clause-none : goal.returns-then-not-is_digit-clause-none
returns-then-not-is_digit-clause-none c =
    let i = c.loop-index.index in
    let no_digit : is_digit (get_or c.args.bytes.now c.loop-index.index 0) ≡ false = sym c.is_digit.ensures ∙ c.if-not-is_digit.true in
    no_digits_at c.args.end c.args.most c.args.bytes.now i c.requires.other c.loop-index.invariant.digits no_digit (λ e. omega (arith, e, c.if-byte-end.false))

pub returns-clause-none : goal.returns-clause-none
returns-clause-none c =
    no_digits_to c.args.end c.args.most c.args.bytes.now c.loop-index.index c.requires.other c.loop-index.invariant.digits (λ n few less. omega (arith, few, less, c.loop-index-test.false, c.requires.count))
