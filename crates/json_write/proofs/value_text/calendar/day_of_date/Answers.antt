use Rattle.std.proofs.Common.{◌≡◌, suc, sym, ◌∙◌, arith, pos, ◌-ℤ◌, to_z, of_z, w64, unsigned_abs}
use Rattle.std.specs.Int.{int_div_euclid, int_rem_euclid}
use Rattle.json_write.proofs.Signed.{signed}
use Rattle.json_write.proofs.Years.{IsYearOf}
use Rattle.json_write.proofs.Days.{number_late, number_early}
use Rattle.json_write.proofs.value_text.calendar.day_of_date.Goals as goal

pub returns-then-date-gt2 : goal.returns-then-date-gt2
returns-then-date-gt2 c =
    let d = c.args.date in
    let here = to_z w64 (of_z w64 d.year) in
    let q = int_div_euclid here (pos 400) in
    let a = unsigned_abs (int_rem_euclid here (pos 400)) in
    let year : IsYearOf d.year q a = omega (arith, signed) in
    let back : to_z w64 (of_z w64 c.march_number.result) ≡ c.march_number.result = omega (arith, signed) in
    back ∙ c.march_number.ensures ∙ sym (number_late d q a year (omega arith) c.requires.exists.month.1 c.requires.exists.day.0)

pub returns-else-date-gt2 : goal.returns-else-date-gt2
returns-else-date-gt2 c =
    let d = c.args.date in
    let before = to_z w64 (of_z w64 (to_z w64 (of_z w64 d.year) -ℤ pos 1)) in
    let q = int_div_euclid before (pos 400) in
    let a = unsigned_abs (int_rem_euclid before (pos 400)) in
    let year : IsYearOf d.year q (suc a) = omega (arith, signed) in
    let back : to_z w64 (of_z w64 c.march_number-else-date-gt2.result) ≡ c.march_number-else-date-gt2.result = omega (arith, signed) in
    back ∙ c.march_number-else-date-gt2.ensures ∙ sym (number_early d q a year c.requires.exists.month.0 (omega arith) c.requires.exists.day.0)
