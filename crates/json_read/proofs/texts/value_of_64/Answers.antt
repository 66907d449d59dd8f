use Rattle.std.proofs.Common.{FitsSigned, refl, subst, sym, w64}
use Rattle.json.specs.Json.{string}
use Rattle.json_read.specs.FlatValues.{signed}
use Rattle.json_read.specs.NativeNumbers.{ReadsNativeValue}
use Rattle.json_read.proofs.TextResults.{IsTimeIn, duration-format, milliseconds-format, time-format-64, timestamp-format, number-result}
use Rattle.json_write.specs.declared.format.ValueFormat.TheVariants as format
use Rattle.nest_flat.specs.declared.any_native.AnyNative.TheVariants as native
use Rattle.nest_memory.specs.declared.datatypes.physical_type.PrimitiveType.TheVariants as primitive
use Rattle.json_write.specs.Times.{duration_text, millisecond_date_text, time_text, timestamp_text, unit_digits}
use Rattle.json_read.proofs.texts.value_of_64.Goals as goal

pub returns-in-MillisecondDate : goal.returns-in-MillisecondDate
returns-in-MillisecondDate c =
    subst (λ v. ReadsNativeValue primitive.Int64 v (string c.args.text.now) c.native_64.result) (sym c.in-MillisecondDate.is)
    (number-result primitive.Int64 format.MillisecondDate (signed 64) millisecond_date_text (FitsSigned w64) c.args.text.now native.Int64 milliseconds-format refl (λ z. refl) (λ z. (refl, refl)) c.parse_millisecond_date.result c.parse_millisecond_date.ensures c.native_64.result c.native_64.ensures)

pub returns-in-Time : goal.returns-in-Time
returns-in-Time c =
    subst (λ v. ReadsNativeValue primitive.Int64 v (string c.args.text.now) c.native_64-in-Time.result) (sym c.in-Time.is)
    (number-result primitive.Int64 (format.Time c.in-Time.unit) (signed 64) (time_text (unit_digits c.in-Time.unit)) (IsTimeIn w64 c.in-Time.unit) c.args.text.now native.Int64 (time-format-64 c.in-Time.unit) refl (λ z. refl) (λ z. (refl, refl)) c.time_of_day.result c.time_of_day.ensures c.native_64-in-Time.result c.native_64-in-Time.ensures)

pub returns-in-Timestamp : goal.returns-in-Timestamp
returns-in-Timestamp c =
    subst (λ v. ReadsNativeValue primitive.Int64 v (string c.args.text.now) c.native_64-in-Timestamp.result) (sym c.in-Timestamp.is)
    (number-result primitive.Int64 (format.Timestamp c.in-Timestamp.unit c.in-Timestamp.utc) (signed 64) (timestamp_text (unit_digits c.in-Timestamp.unit) c.in-Timestamp.utc) (FitsSigned w64) c.args.text.now native.Int64 (timestamp-format c.in-Timestamp.unit c.in-Timestamp.utc) refl (λ z. refl) (λ z. (refl, refl)) c.parse_timestamp.result c.parse_timestamp.ensures c.native_64-in-Timestamp.result c.native_64-in-Timestamp.ensures)

pub returns-in-Duration : goal.returns-in-Duration
returns-in-Duration c =
    subst (λ v. ReadsNativeValue primitive.Int64 v (string c.args.text.now) c.native_64-in-Duration.result) (sym c.in-Duration.is)
    (number-result primitive.Int64 (format.Duration c.in-Duration.unit) (signed 64) (duration_text (unit_digits c.in-Duration.unit)) (FitsSigned w64) c.args.text.now native.Int64 (duration-format c.in-Duration.unit) refl (λ z. refl) (λ z. (refl, refl)) c.parse_duration.result c.parse_duration.ensures c.native_64-in-Duration.result c.native_64-in-Duration.ensures)
