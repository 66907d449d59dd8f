use Rattle.std.proofs.Common.{◌<◌, ap, length, arith}
use Rattle.json_write.specs.Times.{unit_digits}
use Rattle.json_write.proofs.DigitFacts.{length-last_digits, not_zero}
use Rattle.json_write.proofs.value_text.reading.parse_fraction.Goals as goal

pub returns-then-digits-count : goal.returns-then-digits-count
returns-then-digits-count c n fits e =
    let k = unit_digits c.args.unit in
    let some : 0 < k = omega (arith, c.digits-count.ensures.value) in
    let size = rw (not_zero k some) at (ap length e) in
    omega (arith, size, length-last_digits k n, c.in_ok-point.ensures.cases.1, c.digits-count.ensures.value)
