use Rattle.std.proofs.Common.{◌≡◌, ◌<◌, ◌^◌, unsigned_abs, sym, ap, ◌∙◌, arith, rules, to_z, of_z, w64, FitsSigned}
use Rattle.json_write.specs.Calendar.{date_of, day_number}
use Rattle.json_write.specs.Times.{calendar_text, date_text}
use Rattle.json_write.proofs.Signed.{signed}
use Rattle.json_write.proofs.Days.{date_of-exists, date_of-is, day_number-date_of}
use Rattle.json_write.proofs.TimeFacts.{calendar_injective}
use Rattle.json_write.proofs.ReadingFacts.{none_parsed}
use Rattle.json_write.proofs.TimeReadingFacts.{date_year}
use Rattle.json_write.proofs.value_text.parse_times.parse_date.Goals as goal

pub returns-in_err-date : goal.returns-in_err-date
returns-in_err-date c =
    none_parsed date_text (λ n. unsigned_abs n < 10 ^ 17) c.args.text.now _ (search rules)
    (λ n fits e. c.in_err-date.ensures (date_of n) (date_of-exists n, date_year n fits) e)

pub returns-then-unsigned_abs-lt100000000000000000 : goal.returns-then-unsigned_abs-lt100000000000000000
returns-then-unsigned_abs-lt100000000000000000 c =
    let h = c.in_ok-date.ensures in
    let day = to_z w64 (of_z w64 c.day_of_date-day.result) in
    let fits_day : FitsSigned w64 c.day_of_date-day.result = search rules in
    let back : day ≡ c.day_of_date-day.result = omega (arith, signed) in
    let number = back ∙ c.day_of_date-day.ensures in
    (omega (arith, c.unsigned_abs.ensures.value), h.1 ∙ ap calendar_text (sym (date_of-is c.in_ok-date.date day h.0.0 (sym number))))

pub returns-else-unsigned_abs-lt100000000000000000 : goal.returns-else-unsigned_abs-lt100000000000000000
returns-else-unsigned_abs-lt100000000000000000 c n fits e =
    let h = c.in_ok-date.ensures in
    let fits_day : FitsSigned w64 c.day_of_date-day.result = search rules in
    let back : to_z w64 (of_z w64 c.day_of_date-day.result) ≡ c.day_of_date-day.result = omega (arith, signed) in
    let same = calendar_injective c.in_ok-date.date (date_of n) h.0.0 (date_of-exists n) (sym h.1 ∙ e) in
    let number = back ∙ c.day_of_date-day.ensures ∙ ap day_number same ∙ day_number-date_of n in
    omega (arith, fits, ap unsigned_abs number, c.unsigned_abs.ensures.value)
