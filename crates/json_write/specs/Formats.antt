-- The native values that are JSON strings: decimals of both widths, dates, times, timestamps, durations and intervals; and floating-point numbers. Their
-- data type decides the text.
use Rattle.std.specs.Prelude.{ℕ, ℤ, Bool, true, false, is_some, unwrap_or, List, [], ◌∷◌, Option, Some, None, if◌then◌else◌}
use Rattle.nest_memory.specs.Floats.{spec_precision_of}
use Rattle.nest_memory.specs.TypeTree as types
use Rattle.nest_memory.specs.TypeTree.{TypeTree}
use Rattle.nest_memory.specs.declared.datatypes.IntervalUnit.{IntervalUnit}
use Rattle.nest_memory.specs.declared.datatypes.IntervalUnit.TheVariants as interval
use Rattle.nest_memory.specs.declared.datatypes.floats.Precision.{Precision}
use Rattle.nest_memory.specs.declared.datatypes.floats.Precision.TheVariants.{Half, Single, Double}
use Rattle.nest_memory.specs.declared.datatypes.physical_type.PrimitiveType.{PrimitiveType}
use Rattle.nest_memory.specs.declared.datatypes.physical_type.PrimitiveType.TheVariants as primitive
use Rattle.json_write.specs.Decimals.{decimal_text}
use Rattle.json_write.specs.Integers256.{is_low_half, of_halves}
use Rattle.json_write.specs.Times.{unit_digits, date_text, millisecond_date_text, is_time_of_day, time_text, timestamp_text, duration_text, months_text, days_ms_text, month_day_nano_text}
use Rattle.json_write.specs.declared.format.ValueFormat.{ValueFormat}
use Rattle.json_write.specs.declared.format.ValueFormat.TheVariants.{Number, Decimal, Decimal256, Date, MillisecondDate, Time, Timestamp, Duration, Months, DaysMs, MonthDayNano, Float}

abbrev interval_format : IntervalUnit → ValueFormat
interval_format interval.YearMonth = Months
interval_format interval.DayTime = DaysMs
interval_format interval.MonthDayNano = MonthDayNano

-- the format of an extension type, which may be a floating-point type, from that of its storage
abbrev pub extension_format : Option Precision → ValueFormat → ValueFormat
extension_format (Some precision) storage = Float precision
extension_format None storage = storage

-- for a dictionary that of its values, for an extension that of its storage
abbrev pub format_of_type : TypeTree → ValueFormat
format_of_type (types.decimal p s) = Decimal p s
format_of_type (types.decimal256 p s) = Decimal256 p s
format_of_type types.date32 = Date
format_of_type types.date64 = MillisecondDate
format_of_type (types.time32 u) = Time u
format_of_type (types.time64 u) = Time u
format_of_type (types.timestamp u z) = Timestamp u (is_some z)
format_of_type (types.duration u) = Duration u
format_of_type (types.interval u) = interval_format u
format_of_type (types.dictionary k t b) = format_of_type t
format_of_type (types.extension n t m) = extension_format (spec_precision_of (types.extension n t m)) (format_of_type t)
format_of_type t = Number

-- the text of a native value with these numbers, unless it is written as numbers; a time outside of a day is a number, and so is a float;
-- no integer of 256 bits has a negative low half, or one of more than 128 bits
abbrev pub text_of_numbers : ValueFormat → List ℤ → Option (List ℕ)
text_of_numbers (Decimal precision scale) (n ∷ []) = Some (decimal_text scale n)
text_of_numbers (Decimal256 precision scale) (high ∷ low ∷ []) = if is_low_half low then Some (decimal_text scale (of_halves high low)) else None
text_of_numbers Date (n ∷ []) = Some (date_text n)
text_of_numbers MillisecondDate (n ∷ []) = Some (millisecond_date_text n)
text_of_numbers (Time u) (n ∷ []) = if is_time_of_day (unit_digits u) n then Some (time_text (unit_digits u) n) else None
text_of_numbers (Timestamp u utc) (n ∷ []) = Some (timestamp_text (unit_digits u) utc n)
text_of_numbers (Duration u) (n ∷ []) = Some (duration_text (unit_digits u) n)
text_of_numbers Months (n ∷ []) = Some (months_text n)
text_of_numbers DaysMs (days ∷ ms ∷ []) = Some (days_ms_text days ms)
text_of_numbers MonthDayNano (months ∷ days ∷ ns ∷ []) = Some (month_day_nano_text months days ns)
text_of_numbers f zs = None

-- the number of numbers of a value that has a text
abbrev pub numbers_count : ValueFormat → ℕ
numbers_count Number = 0
numbers_count (Float precision) = 0
numbers_count (Decimal256 precision scale) = 2
numbers_count DaysMs = 2
numbers_count MonthDayNano = 3
numbers_count f = 1

-- the text of a value that has one
abbrev pub text_in : ValueFormat → List ℤ → List ℕ
text_in f zs = unwrap_or (text_of_numbers f zs) []

-- the native types of a format: any type has numbers
abbrev pub has_format : PrimitiveType → ValueFormat → Bool
has_format k Number = true
has_format primitive.Int128 (Decimal precision scale) = true
has_format primitive.Int256 (Decimal256 precision scale) = true
has_format primitive.Int32 Date = true
has_format primitive.Int64 MillisecondDate = true
has_format primitive.Int32 (Time u) = true
has_format primitive.Int64 (Time u) = true
has_format primitive.Int64 (Timestamp u utc) = true
has_format primitive.Int64 (Duration u) = true
has_format primitive.Int32 Months = true
has_format primitive.DaysMs DaysMs = true
has_format primitive.MonthDayNano MonthDayNano = true
has_format primitive.UInt16 (Float Half) = true
has_format primitive.UInt32 (Float Single) = true
has_format primitive.UInt64 (Float Double) = true
has_format k f = false
