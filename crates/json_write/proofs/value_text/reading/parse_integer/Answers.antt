use Rattle.std.proofs.Common.{◌<◌, ◌^◌, rules, unsigned_abs}
use Rattle.json_write.specs.Digits.{number_text, signed_integer_text}
use Rattle.json_write.proofs.DigitFacts.{number_first, number_injective}
use Rattle.json_write.proofs.ReadingFacts.{none_parsed, signed_not_empty, minus_none, minus_zero}
use Rattle.json_write.proofs.value_text.reading.parse_integer.Goals as goal

pub returns-in_err-first : goal.returns-in_err-first
returns-in_err-first c =
    none_parsed signed_integer_text (λ z. unsigned_abs z < 10 ^ 38) c.args.text.now _ (search rules)
    (λ z fits e. signed_not_empty number_text (λ n. (number_first n).1) c.args.text.now z c.in_err-first.ensures.cases e)

pub returns-in_err-number : goal.returns-in_err-number
returns-in_err-number c =
    none_parsed signed_integer_text (λ z. unsigned_abs z < 10 ^ 38) c.args.text.now _ (search rules)
    (λ z fits e. minus_none number_text (λ n. (number_first n).1) c.args.text.now c.in_ok-first.rest.now (rw c.if-first-eq45.true at c.in_ok-first.ensures.cases.0) c.in_err-number.ensures z fits e)

pub returns-then-number-eq0 : goal.returns-then-number-eq0
returns-then-number-eq0 c z fits e =
    minus_zero number_text (λ n. (number_first n).1) (λ m n. number_injective n m) c.args.text.now c.in_ok-first.rest.now c.in_ok-number.number (rw c.if-first-eq45.true at c.in_ok-first.ensures.cases.0) c.if-number-eq0.true c.in_ok-number.ensures.1 z e
