use Rattle.std.proofs.Common.{◌≡◌, ◌++◌, ap, ◌∙◌, arith, rules, to_z, of_z, w32, w64, codes}
use Rattle.std.proofs.lemmas.Grind.{put_four}
use Rattle.json_write.specs.Digits.{signed_integer_text}
use Rattle.json_write.specs.Times.{days_text}
use Rattle.json_write.proofs.Signed.{signed}
use Rattle.json_write.proofs.value_text.durations.write_month_day_nano.Goals as goal

pub returns : goal.returns
returns g c plain ok =
    let one = c.write_str.ensures.writes plain (search rules) in
    let two = c.write_integer.ensures one.plain (search rules) in
    let three = c.write_str-2.ensures.writes two.plain (search rules) in
    let four = c.write_days.ensures three.plain ok in
    let months : to_z w64 (of_z w64 c.from.result) ≡ c.args.months = omega (arith, signed) in
    let days = to_z w32 (of_z w32 c.args.days) in
    let units = to_z w64 (of_z w64 c.args.nanoseconds) in
    let same_days : days ≡ c.args.days = omega (arith, signed) in
    let same_units : units ≡ c.args.nanoseconds = omega (arith, signed) in
    put_four g.W.Write.write_str_gives _ _ _ _ _ _ _ _ _ _ one two three four
    (ap (λ x. codes "P" ++ (signed_integer_text x ++ (codes "M" ++ days_text 9 days units))) months
    ∙ ap (λ x. codes "P" ++ (signed_integer_text c.args.months ++ (codes "M" ++ days_text 9 x units))) same_days
    ∙ ap (λ x. codes "P" ++ (signed_integer_text c.args.months ++ (codes "M" ++ days_text 9 c.args.days x))) same_units)
