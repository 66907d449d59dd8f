-- Native values of one format are equal if their text is equal.
use Rattle.std.specs.Prelude.{is_some, if◌then◌else◌}
use Rattle.std.proofs.Common.{◌≡◌, ℕ, zero, suc, ◌+◌, ℤ, Bool, true, false, List, [], ◌∷◌, length, Option, Some, None, refl, sym, ap, ap₂, ◌∙◌, arith}
use Rattle.std.proofs.lemmas.Bool.{false≢true}
use Rattle.std.proofs.lemmas.Option.{same_Some}
use Rattle.json_write.specs.Formats.{text_of_numbers, numbers_count}
use Rattle.json_write.specs.declared.format.ValueFormat.{ValueFormat}
use Rattle.json_write.specs.declared.format.ValueFormat.TheVariants.{Number, Decimal, Decimal256, Date, MillisecondDate, Time, Timestamp, Duration, Months, DaysMs, MonthDayNano, Float}
use Rattle.json_write.proofs.DecimalFacts.{decimal_injective}
use Rattle.json_write.proofs.Magnitudes.{same_halves}
use Rattle.json_write.proofs.TimeFacts.{date_injective, millisecond_date_injective, time_injective, timestamp_injective, duration_injective, months_injective, days_ms_injective, month_day_nano_injective}
use Rattle.json_write.specs.Decimals.{decimal_text}
use Rattle.json_write.specs.Integers256.{is_low_half, of_halves}
use Rattle.json_write.specs.Times.{unit_digits, is_time_of_day, time_text}

no-text : (a : List ℕ) → None ≡ Some a → ⊥
no-text a e = false≢true (ap is_some e)

pub count-told : (v : ValueFormat) (zs : List ℤ) (a : List ℕ) → text_of_numbers v zs ≡ Some a → length zs ≡ numbers_count v
count-told (Decimal precision scale) (n ∷ []) a e = refl
count-told (Decimal256 precision scale) (high ∷ low ∷ []) a e = refl
count-told Date (n ∷ []) a e = refl
count-told MillisecondDate (n ∷ []) a e = refl
count-told (Time u) (n ∷ []) a e = refl
count-told (Timestamp u utc) (n ∷ []) a e = refl
count-told (Duration u) (n ∷ []) a e = refl
count-told Months (n ∷ []) a e = refl
count-told DaysMs (days ∷ ms ∷ []) a e = refl
count-told MonthDayNano (months ∷ days ∷ ns ∷ []) a e = refl
count-told v zs a e = absurd (no-text a e)

one : {n m : ℤ} → n ≡ m → (n ∷ []) ≡ (m ∷ [])
one e = ap (λ x. x ∷ []) e

same-texts : (s t a : List ℕ) → Some s ≡ Some a → Some t ≡ Some a → s ≡ t
same-texts s t a e f = same_Some _ _ e ∙ sym (same_Some _ _ f)

some-if : (b : Bool) (s a : List ℕ) → (if b then Some s else None) ≡ Some a → Some s ≡ Some a
some-if true s a e = e
some-if false s a e = absurd (no-text a e)

some-when : (b : Bool) (s a : List ℕ) → (if b then Some s else None) ≡ Some a → (b ≡ true) × (Some s ≡ Some a)
some-when true s a e = (refl, e)
some-when false s a e = absurd (no-text a e)

pub one-text : (v : ValueFormat) (zs ys : List ℤ) (a : List ℕ) → text_of_numbers v zs ≡ Some a → text_of_numbers v ys ≡ Some a → zs ≡ ys
one-text Number zs ys a e f = absurd (no-text a e)
one-text (Float p) zs ys a e f = absurd (no-text a e)
one-text (Decimal precision scale) (n ∷ []) (m ∷ []) a e f = one (decimal_injective scale n m (same-texts _ _ a e f))
one-text (Decimal256 precision scale) (x ∷ n ∷ []) (y ∷ m ∷ []) a e f =
    let left = some-when (is_low_half n) (decimal_text scale (of_halves x n)) a e in
    let right = some-when (is_low_half m) (decimal_text scale (of_halves y m)) a f in
    let same = same_halves x n y m left.0 right.0 (decimal_injective scale (of_halves x n) (of_halves y m) (same-texts _ _ a left.1 right.1)) in
    ap₂ (λ (high low : ℤ). high ∷ low ∷ []) same.0 same.1
one-text Date (n ∷ []) (m ∷ []) a e f = one (date_injective n m (same-texts _ _ a e f))
one-text MillisecondDate (n ∷ []) (m ∷ []) a e f = one (millisecond_date_injective n m (same-texts _ _ a e f))
one-text (Time u) (n ∷ []) (m ∷ []) a e f =
    let k = unit_digits u in
    one (time_injective k n m (same-texts _ _ a (some-if (is_time_of_day k n) (time_text k n) a e) (some-if (is_time_of_day k m) (time_text k m) a f)))
one-text (Timestamp u utc) (n ∷ []) (m ∷ []) a e f = one (timestamp_injective (unit_digits u) utc n m (same-texts _ _ a e f))
one-text (Duration u) (n ∷ []) (m ∷ []) a e f = one (duration_injective (unit_digits u) n m (same-texts _ _ a e f))
one-text Months (n ∷ []) (m ∷ []) a e f = one (months_injective n m (same-texts _ _ a e f))
one-text DaysMs (d ∷ n ∷ []) (c ∷ m ∷ []) a e f =
    let same = days_ms_injective d n c m (same-texts _ _ a e f) in
    ap₂ (λ (x y : ℤ). x ∷ y ∷ []) same.0 same.1
one-text MonthDayNano (x ∷ d ∷ n ∷ []) (y ∷ c ∷ m ∷ []) a e f =
    let same = month_day_nano_injective x d n y c m (same-texts _ _ a e f) in
    (λ i. same.0 i ∷ same.1 i ∷ same.2 i ∷ [])
one-text v zs ys a e f = absurd (omega (arith, count-told v zs a e, count-told v ys a f))
