use Rattle.std.proofs.Common.{◌≡◌, ◌++◌, ap, ◌∙◌, arith, rules, to_z, of_z, w64, codes}
use Rattle.std.proofs.lemmas.Grind.{put_four}
use Rattle.std.specs.Int.{w128}
use Rattle.json_write.specs.Digits.{signed_integer_text}
use Rattle.json_write.specs.Decimals.{decimal_text}
use Rattle.json_write.proofs.Signed.{signed}
use Rattle.json_write.proofs.value_text.durations.write_days.Goals as goal

pub returns : goal.returns
returns g c plain ok =
    let one = c.write_integer.ensures plain (search rules) in
    let two = c.write_str.ensures.writes one.plain (search rules) in
    let three = c.write_decimal.ensures two.plain (search rules) in
    let four = c.write_str-2.ensures.writes three.plain ok in
    let days : to_z w64 (of_z w64 c.from.result) ≡ c.args.days = omega (arith, signed) in
    let value = to_z w128 (of_z w128 c.from-2.result) in
    let units : value ≡ c.args.value = omega (arith, signed) in
    put_four g.W.Write.write_str_gives _ _ _ _ _ _ _ _ _ _ one two three four
    (ap (λ x. signed_integer_text x ++ (codes "DT" ++ (decimal_text c.digits.result value ++ codes "S"))) days
    ∙ ap (λ y. signed_integer_text c.args.days ++ (codes "DT" ++ (decimal_text c.digits.result y ++ codes "S"))) units
    ∙ ap (λ k. signed_integer_text c.args.days ++ (codes "DT" ++ (decimal_text k c.args.value ++ codes "S"))) c.digits.ensures.value)
