use Rattle.std.proofs.Common.{arith}
use Rattle.json_write.proofs.ReadingFacts.{six_short, six_from_fixed, six_from_number}
use Rattle.json_write.proofs.value_text.reading.parse_six_digits.Goals as goal

pub returns-then-digits-eq6 : goal.returns-then-digits-eq6
returns-then-digits-eq6 c = six_from_fixed c.args.digits.now (omega arith) _ c.digits_number.ensures

pub returns-then-digits-lt6 : goal.returns-then-digits-lt6
returns-then-digits-lt6 c n fits e = six_short c.args.digits.now n (omega arith) e

pub returns-else-digits-lt6 : goal.returns-else-digits-lt6
returns-else-digits-lt6 c = six_from_number c.args.digits.now (omega arith) _ c.parse_number.ensures
