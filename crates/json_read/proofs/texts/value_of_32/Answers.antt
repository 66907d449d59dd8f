use Rattle.std.proofs.Common.{FitsSigned, refl, subst, sym, w32}
use Rattle.json.specs.Json.{string}
use Rattle.json_read.specs.FlatValues.{signed}
use Rattle.json_read.specs.NativeNumbers.{ReadsNativeValue}
use Rattle.json_read.proofs.TextResults.{IsTimeIn, date-format, months-format, time-format-32, number-result}
use Rattle.json_write.specs.declared.format.ValueFormat.TheVariants as format
use Rattle.nest_flat.specs.declared.any_native.AnyNative.TheVariants as native
use Rattle.nest_memory.specs.declared.datatypes.physical_type.PrimitiveType.TheVariants as primitive
use Rattle.json_write.specs.Times.{date_text, months_text, time_text, unit_digits}
use Rattle.json_read.proofs.texts.value_of_32.Goals as goal

pub returns-in-Date : goal.returns-in-Date
returns-in-Date c =
    subst (λ v. ReadsNativeValue primitive.Int32 v (string c.args.text.now) c.native_32.result) (sym c.in-Date.is)
    (number-result primitive.Int32 format.Date (signed 32) date_text (FitsSigned w32) c.args.text.now native.Int32 date-format refl (λ z. refl) (λ z. (refl, refl)) c.date_32.result c.date_32.ensures c.native_32.result c.native_32.ensures)

pub returns-in-Time : goal.returns-in-Time
returns-in-Time c =
    subst (λ v. ReadsNativeValue primitive.Int32 v (string c.args.text.now) c.native_32-in-Time.result) (sym c.in-Time.is)
    (number-result primitive.Int32 (format.Time c.in-Time.unit) (signed 32) (time_text (unit_digits c.in-Time.unit)) (IsTimeIn w32 c.in-Time.unit) c.args.text.now native.Int32 (time-format-32 c.in-Time.unit) refl (λ z. refl) (λ z. (refl, refl)) c.time_32.result c.time_32.ensures c.native_32-in-Time.result c.native_32-in-Time.ensures)

pub returns-in-Months : goal.returns-in-Months
returns-in-Months c =
    subst (λ v. ReadsNativeValue primitive.Int32 v (string c.args.text.now) c.native_32-in-Months.result) (sym c.in-Months.is)
    (number-result primitive.Int32 format.Months (signed 32) months_text (FitsSigned w32) c.args.text.now native.Int32 months-format refl (λ z. refl) (λ z. (refl, refl)) c.parse_months.result c.parse_months.ensures c.native_32-in-Months.result c.native_32-in-Months.ensures)
