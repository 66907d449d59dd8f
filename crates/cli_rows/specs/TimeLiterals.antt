-- Dates, times and timestamps in conditions, by the text that JSON has of them.
use Rattle.std.specs.Prelude.{ℕ, zero, suc, ◌*◌, ◌^◌, ℤ, pos, neg_ℤ, ◌+ℤ◌, ◌*ℤ◌, Bool, false, bytes_eq, List, [], ◌∷◌, Option, Some, None, option_map, if◌then◌else◌}
use Rattle.std.specs.Option.{option_or}
use Rattle.nest_memory.specs.declared.datatypes.TimeUnit.{TimeUnit}
use Rattle.nest_memory.specs.declared.datatypes.TimeUnit.TheVariants.{Second, Millisecond, Microsecond, Nanosecond}
use Rattle.json_write.specs.Formats.{text_of_numbers}
use Rattle.json_write.specs.Times.{unit_digits}
use Rattle.json_write.specs.declared.format.ValueFormat.{ValueFormat}
use Rattle.json_write.specs.declared.format.ValueFormat.TheVariants as formats
use Rattle.cli_args.specs.Conditions.{NumberTree}
use Rattle.cli_rows.specs.declared.select.time_literals.TemporalKind.{TemporalKind}
use Rattle.cli_rows.specs.declared.select.time_literals.TemporalKind.TheVariants as temporal

-- the first of `n` integers from `z` on that passes the test
unfoldable pub first_that : (ℤ → Bool) → ℤ → ℕ → Option ℤ
first_that p z zero = None
first_that p z (suc n) = if p z then Some z else first_that p (z +ℤ pos 1) n

abbrev pub has_text : Option (List ℕ) → List ℕ → Bool
has_text None s = false
has_text (Some text) s = bytes_eq text s

-- the integer from -n to below n that has this text in a format
abbrev pub integer_with_text : ℕ → ValueFormat → List ℕ → Option ℤ
integer_with_text n f s = first_that (λ z. has_text (text_of_numbers f (z ∷ [])) s) (neg_ℤ (pos n)) (2 * n)

-- the day of a date, of 32 bits
abbrev pub day_with_text : List ℕ → Option ℤ
day_with_text s = integer_with_text (2 ^ 31) formats.Date s

-- ---- times in seconds: z and k are z / 10^k

abbrev pub in_unit : TimeUnit → ℤ → ℤ × ℕ
in_unit u z = (z, unit_digits u)

-- the time with 0, 3, 6 or 9 digits of a second that has this text
abbrev pub time_in : TimeUnit → List ℕ → Option (ℤ × ℕ)
time_in u s = option_map (in_unit u) (integer_with_text (2 ^ 63) (formats.Time u) s)

abbrev pub seconds_of_time : List ℕ → Option (ℤ × ℕ)
seconds_of_time s = option_or (option_or (option_or (time_in Second s) (time_in Millisecond s)) (time_in Microsecond s)) (time_in Nanosecond s)

-- such a timestamp
abbrev pub timestamp_in : Bool → TimeUnit → List ℕ → Option (ℤ × ℕ)
timestamp_in utc u s = option_map (in_unit u) (integer_with_text (2 ^ 63) (formats.Timestamp u utc) s)

-- a date as its midnight
abbrev pub midnight : ℤ → ℤ × ℕ
midnight day = (day *ℤ pos 86_400, 0)

abbrev pub seconds_of_timestamp : Bool → List ℕ → Option (ℤ × ℕ)
seconds_of_timestamp utc s =
    option_or (option_or (option_or (option_or (option_map midnight (day_with_text s)) (timestamp_in utc Second s)) (timestamp_in utc Millisecond s)) (timestamp_in utc Microsecond s)) (timestamp_in utc Nanosecond s)

-- ---- the numbers of a column

-- Columns of dates and times are integers, with which no floating-point number is compared.
abbrev pub whole_number : ℤ → NumberTree
whole_number z = record { value = z; digits = 0; single = 0; double = 0 }

-- seconds as units of 10^-d s
abbrev pub units_of_seconds : ℕ → ℤ × ℕ → NumberTree
units_of_seconds d t = record { value = t.0 *ℤ pos (10 ^ d); digits = t.1; single = 0; double = 0 }

-- the number that a text is compared as: of days, or of the units of the column
abbrev pub spec_number_of_text : TemporalKind → List ℕ → Option NumberTree
spec_number_of_text temporal.Date s = option_map whole_number (day_with_text s)
spec_number_of_text (temporal.Time u) s = option_map (units_of_seconds (unit_digits u)) (seconds_of_time s)
spec_number_of_text (temporal.Timestamp u utc) s = option_map (units_of_seconds (unit_digits u)) (seconds_of_timestamp utc s)
