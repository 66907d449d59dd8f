-- Which native values are written as text, by their format.
use Rattle.std.specs.Prelude.{is_some}
use Rattle.std.proofs.Common.{◌≡◌, ℕ, ℤ, Bool, true, false, List, [], ◌∷◌, refl}
use Rattle.std.proofs.lemmas.Bool.{false≢true}
use Rattle.nest_flat.specs.AnyNative.{native_kind, native_numbers}
use Rattle.nest_flat.specs.declared.any_native.AnyNative.{AnyNative}
use Rattle.nest_flat.specs.declared.any_native.AnyNative.TheVariants as any
use Rattle.nest_memory.specs.declared.datatypes.TimeUnit.{TimeUnit}
use Rattle.nest_memory.specs.declared.types.days_ms.{days_ms}
use Rattle.nest_memory.specs.declared.types.i256.{i256}
use Rattle.nest_memory.specs.declared.types.months_days_ns.{months_days_ns}
use Rattle.nest_memory.specs.declared.datatypes.floats.Precision.{Precision}
use Rattle.nest_memory.specs.declared.datatypes.physical_type.PrimitiveType.{PrimitiveType}
use Rattle.nest_memory.specs.declared.datatypes.physical_type.PrimitiveType.TheVariants as primitive
use Rattle.json_write.specs.Formats.{has_format, text_in, text_of_numbers}
use Rattle.json_write.specs.declared.format.ValueFormat.{ValueFormat}
use Rattle.json_write.specs.declared.format.ValueFormat.TheVariants.{Number, Decimal, Decimal256, Date, MillisecondDate, Time, Timestamp, Duration, Months, DaysMs, MonthDayNano, Float}
use Rattle.json_write.specs.Times.{days_ms_text, month_day_nano_text}

-- all values of a format but numbers, floats, times and decimals of 256 bits are text
pub always-text : (v : ValueFormat) (x : AnyNative) → has_format (native_kind x) v ≡ true → (v ≡ Number → ⊥) → ((p : Precision) → v ≡ Float p → ⊥) → ((u : TimeUnit) → v ≡ Time u → ⊥) → ((p s : ℕ) → v ≡ Decimal256 p s → ⊥) → true ≡ is_some (text_of_numbers v (native_numbers x))
always-text Number x h a c b d = absurd (a refl)
always-text (Float p) x h a c b d = absurd (c p refl)
always-text (Time u) x h a c b d = absurd (b u refl)
always-text (Decimal256 p s) x h a c b d = absurd (d p s refl)
always-text (Decimal p s) (any.Int128 n) h a c b d = refl
always-text Date (any.Int32 n) h a c b d = refl
always-text MillisecondDate (any.Int64 n) h a c b d = refl
always-text (Timestamp u utc) (any.Int64 n) h a c b d = refl
always-text (Duration u) (any.Int64 n) h a c b d = refl
always-text Months (any.Int32 n) h a c b d = refl
always-text DaysMs (any.DaysMs n) h a c b d = refl
always-text MonthDayNano (any.MonthDayNano n) h a c b d = refl
always-text v x h a c b d = absurd (false≢true h)

-- the only format of these values that has text
pub days-text : (v : ValueFormat) (a b : ℤ) → has_format primitive.DaysMs v ≡ true → is_some (text_of_numbers v (a ∷ b ∷ [])) ≡ true → days_ms_text a b ≡ text_in v (a ∷ b ∷ [])
days-text DaysMs a b h t = refl
days-text Number a b h t = absurd (false≢true t)
days-text v a b h t = absurd (false≢true h)

pub months-text : (v : ValueFormat) (a b c : ℤ) → has_format primitive.MonthDayNano v ≡ true → is_some (text_of_numbers v (a ∷ b ∷ c ∷ [])) ≡ true → month_day_nano_text a b c ≡ text_in v (a ∷ b ∷ c ∷ [])
months-text MonthDayNano a b c h t = refl
months-text Number a b c h t = absurd (false≢true t)
months-text v a b c h t = absurd (false≢true h)

-- a value of another kind or format has no text
pub no-decimal : (v : ValueFormat) (n : ℤ) → has_format primitive.Int128 v ≡ true → is_some (text_of_numbers v (n ∷ [])) ≡ true → ((p s : ℕ) → v ≡ Decimal p s → ⊥) → ⊥
no-decimal Number n h t d = false≢true t
no-decimal (Decimal p s) n h t d = d p s refl
no-decimal v n h t d = false≢true h

pub no-32 : (v : ValueFormat) (n : ℤ) → has_format primitive.Int32 v ≡ true → is_some (text_of_numbers v (n ∷ [])) ≡ true → (v ≡ Date → ⊥) → ((u : TimeUnit) → v ≡ Time u → ⊥) → (v ≡ Months → ⊥) → ⊥
no-32 Number n h t a b c = false≢true t
no-32 Date n h t a b c = a refl
no-32 (Time u) n h t a b c = b u refl
no-32 Months n h t a b c = c refl
no-32 v n h t a b c = false≢true h

pub no-64 : (v : ValueFormat) (n : ℤ) → has_format primitive.Int64 v ≡ true → is_some (text_of_numbers v (n ∷ [])) ≡ true
    → (v ≡ MillisecondDate → ⊥) → ((u : TimeUnit) → v ≡ Time u → ⊥) → ((u : TimeUnit) (utc : Bool) → v ≡ Timestamp u utc → ⊥) → ((u : TimeUnit) → v ≡ Duration u → ⊥) → ⊥
no-64 Number n h t a b c d = false≢true t
no-64 MillisecondDate n h t a b c d = a refl
no-64 (Time u) n h t a b c d = b u refl
no-64 (Timestamp u utc) n h t a b c d = c u utc refl
no-64 (Duration u) n h t a b c d = d u refl
no-64 v n h t a b c d = false≢true h

-- no value of another kind has a text
pub no-other : (v : ValueFormat) (x : AnyNative) → has_format (native_kind x) v ≡ true → is_some (text_of_numbers v (native_numbers x)) ≡ true
    → ((n : ℤ) → x ≡ any.Int32 n → ⊥) → ((n : ℤ) → x ≡ any.Int64 n → ⊥) → ((n : ℤ) → x ≡ any.Int128 n → ⊥) → ((n : i256) → x ≡ any.Int256 n → ⊥) → ((n : days_ms) → x ≡ any.DaysMs n → ⊥) → ((n : months_days_ns) → x ≡ any.MonthDayNano n → ⊥) → ⊥
no-other v (any.Int32 n) h t a b c d e f = a n refl
no-other v (any.Int64 n) h t a b c d e f = b n refl
no-other v (any.Int128 n) h t a b c d e f = c n refl
no-other v (any.Int256 n) h t a b c d e f = d n refl
no-other v (any.DaysMs n) h t a b c d e f = e n refl
no-other v (any.MonthDayNano n) h t a b c d e f = f n refl
no-other Number x h t a b c d e f = false≢true t
no-other (Float p) x h t a b c d e f = false≢true t
no-other v x h t a b c d e f = false≢true h
