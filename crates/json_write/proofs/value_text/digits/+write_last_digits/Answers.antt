use Rattle.std.proofs.Common.{◌≡◌, ◌-◌, ◌/◌, ◌%◌, [], ◌∷◌, ◌++◌, sym, ap, ◌∙◌, arith, rules}
use Rattle.std.proofs.Output.{has_written_append, has_written_of_eq}
use Rattle.std.proofs.lemmas.Grind.{common_steps}
use Rattle.std.specs.Char.{encode_utf8}
use Rattle.json_write.specs.Digits.{digit, last_digits}
use Rattle.json_write.proofs.DigitFacts.{last_digits_step}
use Rattle.json_write.proofs.value_text.digits.+write_last_digits.Goals as goal

pub returns : goal.returns
returns g t c plain ok =
    let one = c.write_last_digits.ensures plain (search rules) in
    let two = c.write_char.ensures.writes one.plain ok in
    let byte : encode_utf8 c.digit_of.result ≡ digit (c.args.number % 10) ∷ [] = grind (arith, common_steps) in
    has_written_of_eq _ _ _ _ _ (ap (λ xs. last_digits (c.args.count - 1) (c.args.number / 10) ++ xs) byte ∙ sym (last_digits_step c.args.count c.args.number (omega arith)))
    (has_written_append _ _ _ _ _ _ one two)
