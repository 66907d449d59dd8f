use Rattle.std.proofs.Common.{◌+◌, get_or, arith}
use Rattle.cli_args.proofs.DigitValues.{after-more, digit-at, digit-range, part-le}
use Rattle.cli_args.proofs.condition_token.value_after.Goals as goal

pub overflow_mul-value : goal.overflow_mul-value
overflow_mul-value c =
    let more = after-more c.args.number c.args.digits.now c.loop-digit.digit-index c.loop-digit-test.true in
    omega (arith, more, part-le c.args.number c.args.digits.now (c.loop-digit.digit-index + 1), c.loop-digit.invariant, c.requires.fits)

pub overflow_sub-digit : goal.overflow_sub-digit
overflow_sub-digit c =
    let range = digit-range (get_or c.args.digits.now c.loop-digit.digit-index 0) (digit-at c.args.digits.now c.loop-digit.digit-index c.requires.digits c.loop-digit-test.true) in
    range.0

pub overflow_add-value : goal.overflow_add-value
overflow_add-value c =
    let more = after-more c.args.number c.args.digits.now c.loop-digit.digit-index c.loop-digit-test.true in
    let range = digit-range (get_or c.args.digits.now c.loop-digit.digit-index 0) (digit-at c.args.digits.now c.loop-digit.digit-index c.requires.digits c.loop-digit-test.true) in
    omega (arith, more, range.0, range.1, c.from.ensures, part-le c.args.number c.args.digits.now (c.loop-digit.digit-index + 1), c.loop-digit.invariant, c.requires.fits)

pub loop-digit-preserved : goal.loop-digit-preserved
loop-digit-preserved c =
    let more = after-more c.args.number c.args.digits.now c.loop-digit.digit-index c.loop-digit-test.true in
    let range = digit-range (get_or c.args.digits.now c.loop-digit.digit-index 0) (digit-at c.args.digits.now c.loop-digit.digit-index c.requires.digits c.loop-digit-test.true) in
    omega (arith, more, range.0, range.1, c.from.ensures, c.loop-digit.invariant)
