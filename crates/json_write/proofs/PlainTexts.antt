-- The text of native values needs no escapes: its bytes are digits, signs, the point, the colon and capital letters.
use Rattle.std.specs.Prelude.{nat_lt, int_lt, unsigned_abs, ◌^◌, if◌then◌else◌, is_some, unwrap_or}
use Rattle.std.proofs.Common.{◌≡◌, ℕ, zero, suc, ◌+◌, ◌/◌, ◌%◌, ◌≤◌, ◌==◌, ℤ, pos, Bool, true, false, List, [], ◌∷◌, ◌++◌, map, Option, Some, None, refl, sym, ap, ap₂, subst, arith}
use Rattle.std.proofs.lemmas.Bool.{false≢true}
use Rattle.std.proofs.lemmas.Int.Digits.{all_below_base_digits_of}
use Rattle.std.proofs.lemmas.Option.{same_Some}
use Rattle.std.specs.Fmt.{sign_text}
use Rattle.std.specs.Int.{int_div_euclid, int_rem_euclid}
use Rattle.std.specs.Int.Digits.{digits_of, AllBelowBase}
use Rattle.json.specs.Print.{escape}
use Rattle.json.proofs.Printed.Strings.{escape_byte_plain}
use Rattle.json_write.specs.Formats.{text_of_numbers, text_in}
use Rattle.json_write.specs.JsonText.{json_of_numbers, json_of_value, string_or}
use Rattle.json_write.specs.declared.format.ValueFormat.{ValueFormat}
use Rattle.json_write.specs.declared.format.ValueFormat.TheVariants.{Decimal, Decimal256, Date, MillisecondDate, Time, Timestamp, Duration, Months, DaysMs, MonthDayNano}
use Rattle.json_write.specs.Calendar.{date_of}
use Rattle.json_write.specs.Decimals.{decimal_text}
use Rattle.json_write.specs.Integers256.{is_low_half, of_halves}
use Rattle.json_write.specs.Digits.{digit, number_text, signed_integer_text, last_digits, at_least, fraction_text}
use Rattle.json_write.specs.Times.{year_text, calendar_text, date_text, clock_text, is_time_of_day, time_text, zone_text, timestamp_text, millisecond_date_text, duration_text, months_text, days_text, month_day_nano_text, unit_digits, whole_seconds, subseconds}
use Rattle.json_write.specs.declared.value_text.calendar.Date.{Date as CalendarDate}

abbrev IsPlain : List ℕ → Type 0
IsPlain [] = Unit {0}
IsPlain (b ∷ bs) = (43 ≤ b) × (b ≤ 90) × IsPlain bs

plain-escape : (bs : List ℕ) → IsPlain bs → escape bs ≡ bs
plain-escape [] h = refl
plain-escape (b ∷ bs) h = ap₂ (λ (x y : List ℕ). x ++ y) (escape_byte_plain b (λ e. omega (arith, h.0)) (λ e. omega (arith, h.1)) (omega (arith, h.0))) (plain-escape bs h.2)

plain-append : (xs ys : List ℕ) → IsPlain xs → IsPlain ys → IsPlain (xs ++ ys)
plain-append [] ys h l = l
plain-append (x ∷ xs) ys h l = (h.0, h.1, plain-append xs ys h.2 l)

plain-digits : (ds : List ℕ) → AllBelowBase 10 ds → IsPlain (map digit ds)
plain-digits [] h = tt
plain-digits (d ∷ ds) h = (omega arith, omega (arith, h.0), plain-digits ds h.1)

plain-last : (k n : ℕ) → IsPlain (last_digits k n)
unfolding last_digits
plain-last zero n = tt
plain-last (suc k) n = plain-append (last_digits k (n / 10)) (digit (n % 10) ∷ []) (plain-last k (n / 10)) (omega arith, omega arith, tt)

plain-if : (b : Bool) (xs ys : List ℕ) → IsPlain xs → IsPlain ys → IsPlain (if b then xs else ys)
plain-if true xs ys h l = h
plain-if false xs ys h l = l

plain-number : (n : ℕ) → IsPlain (number_text n)
unfolding number_text
plain-number n = plain-if (n == 0) (48 ∷ []) (map digit (digits_of 10 n)) (omega arith, omega arith, tt) (plain-digits (digits_of 10 n) (all_below_base_digits_of 10 n (omega arith)))

plain-sign : (b : Bool) → IsPlain (sign_text b)
plain-sign true = (omega arith, omega arith, tt)
plain-sign false = tt

plain-integer : (z : ℤ) → IsPlain (signed_integer_text z)
plain-integer z = plain-append (sign_text (int_lt z (pos 0))) (number_text (unsigned_abs z)) (plain-sign (int_lt z (pos 0))) (plain-number (unsigned_abs z))

plain-at-least : (k n : ℕ) → IsPlain (at_least k n)
plain-at-least k n = plain-if (nat_lt n (10 ^ k)) (last_digits k n) (number_text n) (plain-last k n) (plain-number n)

plain-fraction : (k n : ℕ) → IsPlain (fraction_text k n)
plain-fraction k n = plain-if (k == 0) [] (46 ∷ last_digits k n) tt (omega arith, omega arith, plain-last k n)

plain-decimal : (scale : ℕ) (z : ℤ) → IsPlain (decimal_text scale z)
plain-decimal scale z =
    let whole = number_text (unsigned_abs z / 10 ^ scale) in
    let fraction = fraction_text scale (unsigned_abs z) in
    plain-append (sign_text (int_lt z (pos 0))) (whole ++ fraction) (plain-sign (int_lt z (pos 0)))
    (plain-append whole fraction (plain-number (unsigned_abs z / 10 ^ scale)) (plain-fraction scale (unsigned_abs z)))

-- ---- dates and times

plain-year : (y : ℤ) → IsPlain (year_text y)
plain-year y =
    let years = unsigned_abs y in
    plain-if (int_lt y (pos 0)) (45 ∷ at_least 6 years) (if nat_lt years 10_000 then last_digits 4 years else 43 ∷ at_least 6 years)
    (omega arith, omega arith, plain-at-least 6 years)
    (plain-if (nat_lt years 10_000) (last_digits 4 years) (43 ∷ at_least 6 years) (plain-last 4 years) (omega arith, omega arith, plain-at-least 6 years))

plain-date : (d : CalendarDate) → IsPlain (calendar_text d)
plain-date d =
    plain-append (year_text d.year) (45 ∷ (last_digits 2 d.month ++ 45 ∷ last_digits 2 d.day)) (plain-year d.year)
    (omega arith, omega arith, plain-append (last_digits 2 d.month) (45 ∷ last_digits 2 d.day) (plain-last 2 d.month) (omega arith, omega arith, plain-last 2 d.day))

plain-clock : (k second fraction : ℕ) → IsPlain (clock_text k second fraction)
plain-clock k second fraction =
    let hours = last_digits 2 (second / 3600) in
    let minutes = last_digits 2 (second / 60 % 60) in
    let seconds = last_digits 2 (second % 60) ++ fraction_text k fraction in
    plain-append hours (58 ∷ (minutes ++ 58 ∷ seconds)) (plain-last 2 (second / 3600)) (
      omega arith,
      omega arith,
      plain-append minutes (58 ∷ seconds) (plain-last 2 (second / 60 % 60))
          (omega arith, omega arith, plain-append (last_digits 2 (second % 60)) (fraction_text k fraction) (plain-last 2 (second % 60)) (plain-fraction k fraction)),
    )

plain-zone : (utc : Bool) → IsPlain (zone_text utc)
plain-zone true = (omega arith, omega arith, tt)
plain-zone false = tt

plain-time : (k : ℕ) (n : ℤ) → IsPlain (time_text k n)
plain-time k n =
    let second = unsigned_abs (whole_seconds k n) in
    plain-if (is_time_of_day k n) (clock_text k second (subseconds k n)) (signed_integer_text n) (plain-clock k second (subseconds k n)) (plain-integer n)

plain-timestamp : (k : ℕ) (utc : Bool) (n : ℤ) → IsPlain (timestamp_text k utc n)
plain-timestamp k utc n =
    let day = date_of (int_div_euclid (whole_seconds k n) (pos 86_400)) in
    let second = unsigned_abs (int_rem_euclid (whole_seconds k n) (pos 86_400)) in
    let clock = clock_text k second (subseconds k n) in
    plain-append (calendar_text day) (84 ∷ (clock ++ zone_text utc)) (plain-date day)
    (omega arith, omega arith, plain-append clock (zone_text utc) (plain-clock k second (subseconds k n)) (plain-zone utc))

plain-millisecond-date : (n : ℤ) → IsPlain (millisecond_date_text n)
plain-millisecond-date n =
    let day = int_div_euclid n (pos 86_400_000) in
    plain-if (unsigned_abs (int_rem_euclid n (pos 86_400_000)) == 0) (date_text day) (timestamp_text 3 false n) (plain-date (date_of day)) (plain-timestamp 3 false n)

-- ---- durations and intervals

plain-duration : (k : ℕ) (n : ℤ) → IsPlain (duration_text k n)
plain-duration k n =
    (omega arith, omega arith, (omega arith, omega arith, plain-append (decimal_text k n) (83 ∷ []) (plain-decimal k n) (omega arith, omega arith, tt)))

plain-months : (n : ℤ) → IsPlain (months_text n)
plain-months n = (omega arith, omega arith, plain-append (signed_integer_text n) (77 ∷ []) (plain-integer n) (omega arith, omega arith, tt))

plain-days : (k : ℕ) (days units : ℤ) → IsPlain (days_text k days units)
plain-days k days units =
    plain-append (signed_integer_text days) (68 ∷ 84 ∷ (decimal_text k units ++ 83 ∷ [])) (plain-integer days)
    (omega arith, omega arith, (omega arith, omega arith, plain-append (decimal_text k units) (83 ∷ []) (plain-decimal k units) (omega arith, omega arith, tt)))

plain-month-day-nano : (months days ns : ℤ) → IsPlain (month_day_nano_text months days ns)
plain-month-day-nano months days ns =
    (omega arith, omega arith, plain-append (signed_integer_text months) (77 ∷ days_text 9 days ns) (plain-integer months) (omega arith, omega arith, plain-days 9 days ns))

-- ---- native values

plain-unless : (b : Bool) (text bs : List ℕ) → IsPlain text → (if b then Some text else None) ≡ Some bs → IsPlain bs
plain-unless true text bs h e = subst IsPlain (same_Some _ _ e) h
plain-unless false text bs h e = absurd (let none : None ≡ Some bs = e in cc)

plain-text : (v : ValueFormat) (zs : List ℤ) (bs : List ℕ) → text_of_numbers v zs ≡ Some bs → IsPlain bs
plain-text (Decimal precision scale) (n ∷ []) bs e = subst IsPlain (same_Some _ _ e) (plain-decimal scale n)
plain-text (Decimal256 precision scale) (high ∷ low ∷ []) bs e =
    plain-unless (is_low_half low) (decimal_text scale (of_halves high low)) bs (plain-decimal scale (of_halves high low)) e
plain-text Date (n ∷ []) bs e = subst IsPlain (same_Some _ _ e) (plain-date (date_of n))
plain-text MillisecondDate (n ∷ []) bs e = subst IsPlain (same_Some _ _ e) (plain-millisecond-date n)
plain-text (Time u) (n ∷ []) bs e = plain-unless (is_time_of_day (unit_digits u) n) (time_text (unit_digits u) n) bs (plain-time (unit_digits u) n) e
plain-text (Timestamp u utc) (n ∷ []) bs e = subst IsPlain (same_Some _ _ e) (plain-timestamp (unit_digits u) utc n)
plain-text (Duration u) (n ∷ []) bs e = subst IsPlain (same_Some _ _ e) (plain-duration (unit_digits u) n)
plain-text Months (n ∷ []) bs e = subst IsPlain (same_Some _ _ e) (plain-months n)
plain-text DaysMs (days ∷ ms ∷ []) bs e = subst IsPlain (same_Some _ _ e) (omega arith, omega arith, plain-days 3 days ms)
plain-text MonthDayNano (months ∷ days ∷ ns ∷ []) bs e = subst IsPlain (same_Some _ _ e) (plain-month-day-nano months days ns)
plain-text v zs bs e = absurd (let none : None ≡ Some bs = e in cc)

-- the quotes around the text make a JSON string
quoted-option : (o : Option (List ℕ)) (json : List ℕ) → ((bs : List ℕ) → o ≡ Some bs → IsPlain bs) → is_some o ≡ true → 34 ∷ (unwrap_or o [] ++ 34 ∷ []) ≡ string_or o json
quoted-option (Some bs) json h e = ap (λ x. 34 ∷ (x ++ 34 ∷ [])) (sym (plain-escape bs (h bs refl)))
quoted-option None json h e = absurd (false≢true e)

pub quoted-text : (v : ValueFormat) (zs : List ℤ) → is_some (text_of_numbers v zs) ≡ true → 34 ∷ (text_in v zs ++ 34 ∷ []) ≡ json_of_value v zs
quoted-text v zs e = quoted-option (text_of_numbers v zs) (json_of_numbers v zs) (plain-text v zs) e
