use Rattle.std.proofs.Common.{ap, length, arith}
use Rattle.std.proofs.lemmas.Fmt.{decimal_is_IsNumeral_wide}
use Rattle.float_text.proofs.text.write_size.Goals as goal

pub overflow_add-digits : goal.overflow_add-digits
overflow_add-digits g c = omega (arith, c.format-digits.ensures.short, c.shortest-number.ensures.power)

pub write_with_point-requires : goal.write_with_point-requires
write_with_point-requires g c =
    let numeral = decimal_is_IsNumeral_wide c.shortest-number.result.0 (omega arith) in
    (c.format-digits.ensures.ascii, omega (arith, ap length c.format-digits.ensures.text, numeral.0.0), c.format-digits.ensures.short, omega (arith, c.format-digits.ensures.short, c.shortest-number.ensures.power))
