use Rattle.std.proofs.Common.{◌≡◌, ◌+◌, pos, ◌+ℤ◌, ◌-ℤ◌, ◌*ℤ◌, unsigned_abs, to_z, of_z, w64, ap, ◌∙◌, refl, arith}
use Rattle.std.specs.Int.{int_div_euclid, int_rem_euclid}
use Rattle.json_write.specs.March.{march_days, march_months, march_day_number}
use Rattle.json_write.proofs.Signed.{signed}
use Rattle.json_write.proofs.value_text.calendar.march_number.Goals as goal

pub returns : goal.returns
returns c =
    let q = int_div_euclid c.args.year (pos 400) in
    let a = unsigned_abs (int_rem_euclid c.args.year (pos 400)) in
    let back : to_z w64 (of_z w64 c.args.year) ≡ c.args.year = omega (arith, signed) in
    let cycle : c.div_euclid-cycle.result ≡ q = c.div_euclid-cycle.ensures ∙ ap (λ y. int_div_euclid y (pos 400)) back in
    let years : c.rem_euclid-years.result ≡ int_rem_euclid c.args.year (pos 400) = c.rem_euclid-years.ensures.value ∙ ap (λ y. int_rem_euclid y (pos 400)) back in
    let parts : march_day_number q a c.args.month c.args.day ≡ q *ℤ pos 146_097 +ℤ pos (march_days a + march_months c.args.month + c.args.day) -ℤ pos 719_469 = refl in
    omega (arith, signed, parts)
