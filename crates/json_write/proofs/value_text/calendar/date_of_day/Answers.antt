use Rattle.std.proofs.Common.{suc, pos, ◌+ℤ◌, sym, arith, to_z, of_z, w64}
use Rattle.json_write.proofs.Signed.{signed}
use Rattle.json_write.proofs.Years.{IsYearOf}
use Rattle.json_write.proofs.Days.{IsMarchDay, date_of-is, late_date, early_date, late_date-exists, late_date-number, early_date-exists, early_date-number}
use Rattle.json_write.proofs.value_text.calendar.date_of_day.Goals as goal

pub returns-then-month-gt12-clause-exists : goal.returns-then-month-gt12-clause-exists
returns-then-month-gt12-clause-exists c =
    let y = to_z w64 (of_z w64 c.year_in_cycle.result) in
    let q = c.div_euclid-cycle.result +ℤ pos 4 in
    let a = c.march_year-years.result.0 in
    let r = c.march_year-years.result.1 in
    let year : IsYearOf y q (suc a) = omega (arith, signed) in
    early_date-exists y q a r year (omega arith) (omega arith) (omega arith)

pub returns-then-month-gt12-clause-date : goal.returns-then-month-gt12-clause-date
returns-then-month-gt12-clause-date c =
    let y = to_z w64 (of_z w64 c.year_in_cycle.result) in
    let q = c.div_euclid-cycle.result +ℤ pos 4 in
    let a = c.march_year-years.result.0 in
    let r = c.march_year-years.result.1 in
    let year : IsYearOf y q (suc a) = omega (arith, signed) in
    let day : IsMarchDay c.args.day q a r = omega (arith, signed) in
    sym (date_of-is (early_date y r) c.args.day (early_date-exists y q a r year (omega arith) (omega arith) (omega arith)) (early_date-number c.args.day y q a r year day (omega arith) (omega arith)))

pub returns-else-month-gt12-clause-exists : goal.returns-else-month-gt12-clause-exists
returns-else-month-gt12-clause-exists c =
    late_date-exists (to_z w64 (of_z w64 c.year_in_cycle-else-month-gt12.result)) c.march_year-years.result.1 (omega arith)

pub returns-else-month-gt12-clause-date : goal.returns-else-month-gt12-clause-date
returns-else-month-gt12-clause-date c =
    let y = to_z w64 (of_z w64 c.year_in_cycle-else-month-gt12.result) in
    let q = c.div_euclid-cycle.result +ℤ pos 4 in
    let a = c.march_year-years.result.0 in
    let r = c.march_year-years.result.1 in
    let year : IsYearOf y q a = omega (arith, signed) in
    let day : IsMarchDay c.args.day q a r = omega (arith, signed) in
    sym (date_of-is (late_date y r) c.args.day (late_date-exists y r (omega arith)) (late_date-number c.args.day y q a r year day (omega arith) (omega arith)))
