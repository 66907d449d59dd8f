use Rattle.std.proofs.Common.{arith}
use Rattle.json_write.proofs.ReadingFacts.{number_not_empty, number_not_long, number_from_fixed, zero_text, zero_alone}
use Rattle.json_write.proofs.value_text.reading.parse_number.Goals as goal

pub returns-then-len-eq0 : goal.returns-then-len-eq0
returns-then-len-eq0 c n fits e = number_not_empty c.args.digits.now n (omega arith) e

pub returns-then-len-gt38 : goal.returns-then-len-gt38
returns-then-len-gt38 c n fits e = number_not_long c.args.digits.now n (omega arith) fits e

pub returns-then-len-eq1 : goal.returns-then-len-eq1
returns-then-len-eq1 c = (omega arith, zero_text c.args.digits.now (omega arith) (omega arith))

pub returns-else-len-eq1 : goal.returns-else-len-eq1
returns-else-len-eq1 c n fits e = omega (arith, zero_alone c.args.digits.now n (omega arith) e)

pub returns : goal.returns
returns c = number_from_fixed c.args.digits.now (omega arith) (omega arith) (λ z. omega arith) _ c.digits_number.ensures
