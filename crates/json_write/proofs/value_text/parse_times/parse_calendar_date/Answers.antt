use Rattle.std.proofs.Common.{◌≡◌, ◌<◌, ◌^◌, length, unsigned_abs, refl, sym, ap, ◌∙◌, arith, rules, length-append, to_z, of_z, w64}
use Rattle.json_write.specs.Calendar.{IsDate, is_leap_year}
use Rattle.json_write.specs.Times.{year_text, calendar_text}
use Rattle.json_write.specs.declared.value_text.calendar.Date.{Date}
use Rattle.json_write.proofs.TimeFacts.{date_tail, length-date_tail, small_day}
use Rattle.json_write.proofs.Signed.{signed}
use Rattle.json_write.proofs.ReadingFacts.{none_parsed, digits_none}
use Rattle.json_write.proofs.TimeReadingFacts.{two_long, split_tail, tail_parts, calendar_same, calendar_read}
use Rattle.json_write.proofs.value_text.parse_times.parse_calendar_date.Goals as goal

pub returns-then-text-lt6 : goal.returns-then-text-lt6
returns-then-text-lt6 c d fits e = omega (arith, ap length e, length-append (year_text d.year) (date_tail d), length-date_tail d)

pub returns-then-rest-ne45 : goal.returns-then-rest-ne45
returns-then-rest-ne45 c d fits e =
    let parts = split_tail c.args.text.now (year_text d.year) (date_tail d) 6 e (length-date_tail d) in
    c.if-rest-ne45.true (tail_parts c.split_at.result.1.now d (c.split_at.ensures.back ∙ parts.1)).dash

pub returns-then-rest-ne45-2 : goal.returns-then-rest-ne45-2
returns-then-rest-ne45-2 c d fits e =
    let parts = split_tail c.args.text.now (year_text d.year) (date_tail d) 6 e (length-date_tail d) in
    c.if-rest-ne45-2.true (tail_parts c.split_at.result.1.now d (c.split_at.ensures.back ∙ parts.1)).second_dash

pub returns-in_err-year : goal.returns-in_err-year
returns-in_err-year c =
    none_parsed calendar_text (λ d. IsDate d × (unsigned_abs d.year < 10 ^ 15)) c.args.text.now _ (search rules)
    (λ d fits e. c.in_err-year.ensures d.year fits.1 (c.split_at.ensures.front ∙ (split_tail c.args.text.now (year_text d.year) (date_tail d) 6 e (length-date_tail d)).0))

pub returns-in_err-month : goal.returns-in_err-month
returns-in_err-month c =
    none_parsed calendar_text (λ d. IsDate d × (unsigned_abs d.year < 10 ^ 15)) c.args.text.now _ (search rules)
    (λ d fits e.
    let parts = split_tail c.args.text.now (year_text d.year) (date_tail d) 6 e (length-date_tail d) in
    digits_none _ 2 d.month c.in_err-month.ensures (omega (arith, fits.0.month.1)) (tail_parts c.split_at.result.1.now d (c.split_at.ensures.back ∙ parts.1)).month)

pub returns-in_err-day : goal.returns-in_err-day
returns-in_err-day c =
    none_parsed calendar_text (λ d. IsDate d × (unsigned_abs d.year < 10 ^ 15)) c.args.text.now _ (search rules)
    (λ d fits e.
    let parts = split_tail c.args.text.now (year_text d.year) (date_tail d) 6 e (length-date_tail d) in
    digits_none _ 2 d.day c.in_err-day.ensures (small_day (is_leap_year d.year) d.month d.day fits.0.day.1) (tail_parts c.split_at.result.1.now d (c.split_at.ensures.back ∙ parts.1)).day)

pub returns-then-exists : goal.returns-then-exists
returns-then-exists c =
    let rest = c.split_at.result.1.now in
    let y = c.in_ok-year.year in
    let m = c.in_ok-month.ensures in
    let k = c.in_ok-day.ensures in
    let year = c.in_ok-year.ensures in
    let back : to_z w64 (of_z w64 y) ≡ y = omega (arith, signed, year.0) in
    let long : length rest ≡ 6 = omega (arith, c.split_at.ensures.back_len) in
    let date : Date = record { year = y; month = c.in_ok-month.month; day = c.in_ok-day.day } in
    let there : IsDate date = rw back at (c.if-exists.ensures.0 refl) in
    rw back (
      (there, year.0),
      calendar_read c.args.text.now c.split_at.result.0.now rest date c.split_at.ensures.by_index.0 year.1 long (omega arith) (omega arith)
          (record { long = two_long rest 1 (omega arith); small = m.0; digits = m.1 }) (record { long = two_long rest 4 (omega arith); small = k.0; digits = k.1 }),
    )

pub returns-else-exists : goal.returns-else-exists
returns-else-exists c d fits e =
    let rest = c.split_at.result.1.now in
    let y = c.in_ok-year.year in
    let m = c.in_ok-month.ensures in
    let k = c.in_ok-day.ensures in
    let year = c.in_ok-year.ensures in
    let back : to_z w64 (of_z w64 y) ≡ y = omega (arith, signed, year.0) in
    let long : length rest ≡ 6 = omega (arith, c.split_at.ensures.back_len) in
    let parts = split_tail c.args.text.now (year_text d.year) (date_tail d) 6 e (length-date_tail d) in
    let there = calendar_same rest y c.in_ok-month.month c.in_ok-day.day d fits.0 (tail_parts rest d (c.split_at.ensures.back ∙ parts.1)) (sym year.1 ∙ c.split_at.ensures.front ∙ parts.0)
    (record { long = two_long rest 1 (omega arith); small = m.0; digits = m.1 }) (record { long = two_long rest 4 (omega arith); small = k.0; digits = k.1 }) in
    let date : IsDate (record { year = to_z w64 (of_z w64 y); month = c.in_ok-month.month; day = c.in_ok-day.day }) = rw back there in
    let no = c.if-exists.ensures.1 date in cc
