-- What is read from the text of a native value.
use Rattle.std.specs.Prelude.{unwrap_or, is_some, Result, Ok, Err, MatchOption, IsTrue, if◌then◌else◌}
use Rattle.std.proofs.Common.{◌≡◌, ℕ, ◌<◌, ◌^◌, ℤ, pos, negsuc, nat_lt, unsigned_abs, Bool, true, false, ◌&&◌, List, [], ◌∷◌, Option, Some, None, FitsSigned, w32, w64, refl, sym, ap, ◌∙◌, subst, arith}
use Rattle.std.proofs.lemmas.Bool.{false≢true}
use Rattle.std.proofs.lemmas.Option.{same_Some}
use Rattle.std.specs.Int.{Width, w128}
use Rattle.std.specs.Int.Signed.{mag}
use Rattle.json.specs.Json.{string}
use Rattle.nest_flat.specs.AnyNative.{native_kind, native_numbers}
use Rattle.nest_flat.specs.declared.any_native.AnyNative.{AnyNative}
use Rattle.json_read.specs.FlatValues.{Range, signed, unsigned, is_in, are_in, first_error, error_unless, text_error, value_error_of}
use Rattle.json_read.specs.NativeNumbers.{ReadsNativeValue}
use Rattle.json_read.specs.TextNumbers.{is_within_precision, numbers_of_text}
use Rattle.json_read.specs.declared.value_error.ValueError.{ValueError}
use Rattle.json_read.specs.declared.value_error.ValueError.TheVariants.{InvalidText, PrecisionExceeded}
use Rattle.json_read.proofs.TextBack.{found-text, text-back}
use Rattle.json_read.proofs.ValuesBack.{text-valid, text-values}
use Rattle.json_read.proofs.Wholes.{in-signed, signed-in, unsigned-in}
use Rattle.json_write.specs.Formats.{text_of_numbers}
use Rattle.json_write.specs.TypedSlots.{NumbersFitIn128Bits}
use Rattle.json_write.specs.declared.format.ValueFormat.{ValueFormat}
use Rattle.json_write.specs.declared.format.ValueFormat.TheVariants.{Decimal, Decimal256, Date, MillisecondDate, Time, Timestamp, Duration, Months, DaysMs, MonthDayNano}
use Rattle.nest_memory.specs.declared.datatypes.TimeUnit.{TimeUnit}
use Rattle.nest_memory.specs.declared.datatypes.physical_type.PrimitiveType.TheVariants as primitive
use Rattle.json_write.specs.Decimals.{decimal_text}
use Rattle.json_write.specs.Integers256.{HasHalves, int256_value, is_low_half, of_halves}
use Rattle.json_write.proofs.Magnitudes.{low_half}
use Rattle.nest_memory.specs.declared.types.i256.{i256}
use Rattle.json_write.specs.Times.{unit_digits, date_text, millisecond_date_text, is_time_of_day, time_text, timestamp_text, duration_text, months_text, days_ms_text, month_day_nano_text}
use Rattle.nest_memory.specs.declared.datatypes.physical_type.PrimitiveType.{PrimitiveType}
use Rattle.json_write.specs.Reading.{IsParsed}

-- no numbers in the ranges have the text
invalid-in : (v : ValueFormat) (zs : List ℤ) (b : Bool) → (b ≡ true → ⊥) → first_error (error_unless b InvalidText) (error_unless (is_within_precision v zs) PrecisionExceeded) ≡ Some InvalidText
invalid-in v zs true none = absurd (none refl)
invalid-in v zs false none = refl

none-go : (v : ValueFormat) (rs : List Range) (s : List ℕ) → ((zs : List ℤ) → text_of_numbers v zs ≡ Some s → are_in rs zs ≡ true → ⊥) → (o : Option (List ℤ)) → ((zs : List ℤ) → o ≡ Some zs → text_of_numbers v zs ≡ Some s) → text_error v rs o ≡ Some InvalidText
none-go v rs s none None told = refl
none-go v rs s none (Some zs) told = invalid-in v zs (are_in rs zs) (λ i. none zs (told zs refl) i)

pub text-none : (v : ValueFormat) (rs : List Range) (s : List ℕ) → ((zs : List ℤ) → text_of_numbers v zs ≡ Some s → are_in rs zs ≡ true → ⊥) → text_error v rs (numbers_of_text v s) ≡ Some InvalidText
text-none v rs s none = none-go v rs s none (numbers_of_text v s) (λ zs e. found-text v zs s e)

pub text-some : (v : ValueFormat) (rs : List Range) (zs : List ℤ) (s : List ℕ) → NumbersFitIn128Bits zs → text_of_numbers v zs ≡ Some s → are_in rs zs ≡ true → is_within_precision v zs ≡ true → (text_error v rs (numbers_of_text v s) ≡ None) × (unwrap_or (numbers_of_text v s) [] ≡ zs)
text-some v rs zs s fit e h l =
    let found = text-back v zs s fit e in
    (ap (text_error v rs) found ∙ text-valid v rs zs h l, ap (λ o. unwrap_or o []) found)

pub text-precise : (v : ValueFormat) (rs : List Range) (zs : List ℤ) (s : List ℕ) → NumbersFitIn128Bits zs → text_of_numbers v zs ≡ Some s → are_in rs zs ≡ true → is_within_precision v zs ≡ false → text_error v rs (numbers_of_text v s) ≡ Some PrecisionExceeded
text-precise v rs zs s fit e h l =
    let found = text-back v zs s fit e in
    ap (text_error v rs) found ∙ ap (λ b. first_error (error_unless b InvalidText) (error_unless (is_within_precision v zs) PrecisionExceeded)) h ∙ ap (λ b. error_unless b PrecisionExceeded) l

-- ---- numbers and their ranges

pub fits-32 : (z : ℤ) → is_in (signed 32) z ≡ true → FitsSigned w32 z
fits-32 z e = record { sfits = signed-in 32 z e }

pub in-32 : (z : ℤ) → FitsSigned w32 z → is_in (signed 32) z ≡ true
in-32 z f = in-signed 32 z f.sfits

pub fits-64 : (z : ℤ) → is_in (signed 64) z ≡ true → FitsSigned w64 z
fits-64 z e = record { sfits = signed-in 64 z e }

pub in-64 : (z : ℤ) → FitsSigned w64 z → is_in (signed 64) z ≡ true
in-64 z f = in-signed 64 z f.sfits

pub fits-128 : (z : ℤ) → is_in (signed 128) z ≡ true → FitsSigned w128 z
fits-128 z e = record { sfits = signed-in 128 z e }

pub in-128 : (z : ℤ) → FitsSigned w128 z → is_in (signed 128) z ≡ true
in-128 z f = in-signed 128 z f.sfits

pub short-32 : (z : ℤ) → FitsSigned w32 z → mag z < 2 ^ 128
short-32 z f = omega (arith, f.sfits)

pub short-64 : (z : ℤ) → FitsSigned w64 z → mag z < 2 ^ 128
short-64 z f = omega (arith, f.sfits)

pub short-128 : (z : ℤ) → FitsSigned w128 z → mag z < 2 ^ 128
short-128 z f = omega (arith, f.sfits)

-- ---- values of one number

left : (a b : Bool) → (a && b) ≡ true → a ≡ true
left true b e = refl
left false b e = absurd (false≢true e)

right : (a b : Bool) → (a && b) ≡ true → b ≡ true
right true b e = e
right false b e = absurd (false≢true e)

pub both : (a b : Bool) → a ≡ true → b ≡ true → (a && b) ≡ true
both a b p q = rw (p, q) refl

one-in : (r : Range) (zs : List ℤ) → ((z : ℤ) → zs ≡ z ∷ [] → is_in r z ≡ true → ⊥) → are_in (r ∷ []) zs ≡ true → ⊥
one-in r [] none e = false≢true e
one-in r (z ∷ []) none e = none z refl (left (is_in r z) true e)
one-in r (z ∷ y ∷ zs) none e = false≢true (right (is_in r z) false e)

-- a format of values of one number, with the text of those that fit
pub record IsFormat (v : ValueFormat) (r : Range) (T : ℤ → List ℕ) (Fits : ℤ → Type 0) : Type 0 where
  pub text : (z : ℤ) → Fits z → text_of_numbers v (z ∷ []) ≡ Some (T z)
  pub back : (z : ℤ) (s : List ℕ) → is_in r z ≡ true → text_of_numbers v (z ∷ []) ≡ Some s → Fits z × (s ≡ T z)
  pub within : (z : ℤ) → Fits z → is_in r z ≡ true
  pub short : (z : ℤ) → Fits z → mag z < 2 ^ 128

pub one-none : (v : ValueFormat) (r : Range) (T : ℤ → List ℕ) (Fits : ℤ → Type 0) (s : List ℕ) → IsFormat v r T Fits → IsParsed T Fits s None → text_error v (r ∷ []) (numbers_of_text v s) ≡ Some InvalidText
one-none v r T Fits s k none =
    text-none v (r ∷ []) s (λ zs e i. one-in r zs (λ z same j. let b = k.back z s j (sym (ap (text_of_numbers v) same) ∙ e) in none z b.0 b.1) i)

pub one-some : (v : ValueFormat) (r : Range) (T : ℤ → List ℕ) (Fits : ℤ → Type 0) (s : List ℕ) (z : ℤ) → IsFormat v r T Fits → IsParsed T Fits s (Some z) → is_within_precision v (z ∷ []) ≡ true → (text_error v (r ∷ []) (numbers_of_text v s) ≡ None) × (unwrap_or (numbers_of_text v s) [] ≡ z ∷ [])
one-some v r T Fits s z k h l =
    text-some v (r ∷ []) (z ∷ []) s (k.short z h.0, tt) (k.text z h.0 ∙ ap Some (sym h.1)) (both (is_in r z) true (k.within z h.0) refl) l

-- ---- the formats of one number

told : (b : Bool) (t s : List ℕ) → (if b then Some t else None) ≡ Some s → (b ≡ true) × (s ≡ t)
told true t s e = (refl, sym (same_Some _ _ e))
told false t s e = absurd (false≢true (ap is_some e))

abbrev pub IsTimeIn : Width → TimeUnit → ℤ → Type 0
IsTimeIn w u n = FitsSigned w n × IsTrue (is_time_of_day (unit_digits u) n)

pub date-format : IsFormat Date (signed 32) date_text (FitsSigned w32)
date-format = record { text = λ z f. refl; back = λ z s i e. (fits-32 z i, sym (same_Some _ _ e)); within = in-32; short = short-32 }

pub months-format : IsFormat Months (signed 32) months_text (FitsSigned w32)
months-format = record { text = λ z f. refl; back = λ z s i e. (fits-32 z i, sym (same_Some _ _ e)); within = in-32; short = short-32 }

pub time-format-32 : (u : TimeUnit) → IsFormat (Time u) (signed 32) (time_text (unit_digits u)) (IsTimeIn w32 u)
time-format-32 u = record {
  text = λ z f. ap (λ b. if b then Some (time_text (unit_digits u) z) else None) f.1;
  back = λ z s i e. let t = told (is_time_of_day (unit_digits u) z) (time_text (unit_digits u) z) s e in ((fits-32 z i, t.0), t.1);
  within = λ z f. in-32 z f.0;
  short = λ z f. short-32 z f.0;
}

pub time-format-64 : (u : TimeUnit) → IsFormat (Time u) (signed 64) (time_text (unit_digits u)) (IsTimeIn w64 u)
time-format-64 u = record {
  text = λ z f. ap (λ b. if b then Some (time_text (unit_digits u) z) else None) f.1;
  back = λ z s i e. let t = told (is_time_of_day (unit_digits u) z) (time_text (unit_digits u) z) s e in ((fits-64 z i, t.0), t.1);
  within = λ z f. in-64 z f.0;
  short = λ z f. short-64 z f.0;
}

pub milliseconds-format : IsFormat MillisecondDate (signed 64) millisecond_date_text (FitsSigned w64)
milliseconds-format = record { text = λ z f. refl; back = λ z s i e. (fits-64 z i, sym (same_Some _ _ e)); within = in-64; short = short-64 }

pub timestamp-format : (u : TimeUnit) (utc : Bool) → IsFormat (Timestamp u utc) (signed 64) (timestamp_text (unit_digits u) utc) (FitsSigned w64)
timestamp-format u utc = record { text = λ z f. refl; back = λ z s i e. (fits-64 z i, sym (same_Some _ _ e)); within = in-64; short = short-64 }

pub duration-format : (u : TimeUnit) → IsFormat (Duration u) (signed 64) (duration_text (unit_digits u)) (FitsSigned w64)
duration-format u = record { text = λ z f. refl; back = λ z s i e. (fits-64 z i, sym (same_Some _ _ e)); within = in-64; short = short-64 }

pub decimal-format : (p k : ℕ) → IsFormat (Decimal p k) (signed 128) (decimal_text k) (FitsSigned w128)
decimal-format p k = record { text = λ z f. refl; back = λ z s i e. (fits-128 z i, sym (same_Some _ _ e)); within = in-128; short = short-128 }

-- a value of the format, from what is read
pub number-result : (p : PrimitiveType) (v : ValueFormat) (r : Range) (T : ℤ → List ℕ) (Fits : ℤ → Type 0) (s : List ℕ) (make : ℤ → AnyNative) → IsFormat v r T Fits → value_error_of p v (string s) ≡ text_error v (r ∷ []) (numbers_of_text v s) → ((z : ℤ) → is_within_precision v (z ∷ []) ≡ true) → ((z : ℤ) → (native_kind (make z) ≡ p) × (native_numbers (make z) ≡ z ∷ [])) → (o : Option ℤ) → IsParsed T Fits s o → (res : Result AnyNative ValueError) → MatchOption o (res ≡ Err InvalidText) (λ n. res ≡ Ok (make n)) → ReadsNativeValue p v (string s) res
number-result p v r T Fits s make k read within kind None h res e = subst (λ x. ReadsNativeValue p v (string s) x) (sym e) (read ∙ one-none v r T Fits s k h)
number-result p v r T Fits s make k read within kind (Some z) h res e =
    let some = one-some v r T Fits s z k h (within z) in
    let values = text-values v (z ∷ []) (T z) s (k.text z h.0) in
    let made : ReadsNativeValue p v (string s) (Ok (make z)) = (read ∙ some.0, (kind z).0, (kind z).1 ∙ sym some.1 ∙ sym values) in
    subst (λ x. ReadsNativeValue p v (string s) x) (sym e) made

-- ---- intervals

days-ms-go : (s : List ℕ) → ((p : ℤ × ℤ) → FitsSigned w32 p.0 × FitsSigned w32 p.1 → ¬ (s ≡ days_ms_text p.0 p.1)) → (zs : List ℤ) → text_of_numbers DaysMs zs ≡ Some s → are_in (signed 32 ∷ signed 32 ∷ []) zs ≡ true → ⊥
days-ms-go s none [] e i = false≢true i
days-ms-go s none (a ∷ []) e i = false≢true (right (is_in (signed 32) a) false i)
days-ms-go s none (a ∷ b ∷ []) e i =
    none (a, b) (fits-32 a (left (is_in (signed 32) a) (is_in (signed 32) b && true) i), fits-32 b (left (is_in (signed 32) b) true (right (is_in (signed 32) a) (is_in (signed 32) b && true) i))) (sym (same_Some _ _ e))
days-ms-go s none (a ∷ b ∷ x ∷ xs) e i = false≢true (right (is_in (signed 32) b) false (right (is_in (signed 32) a) (is_in (signed 32) b && false) i))

pub days-ms-none : (s : List ℕ) → ((p : ℤ × ℤ) → FitsSigned w32 p.0 × FitsSigned w32 p.1 → ¬ (s ≡ days_ms_text p.0 p.1)) → value_error_of primitive.DaysMs DaysMs (string s) ≡ Some InvalidText
days-ms-none s none = text-none DaysMs (signed 32 ∷ signed 32 ∷ []) s (days-ms-go s none)

pub days-ms-some : (s : List ℕ) (a b : ℤ) → FitsSigned w32 a → FitsSigned w32 b → s ≡ days_ms_text a b → (value_error_of primitive.DaysMs DaysMs (string s) ≡ None) × (unwrap_or (numbers_of_text DaysMs s) [] ≡ a ∷ b ∷ [])
days-ms-some s a b f g e =
    text-some DaysMs (signed 32 ∷ signed 32 ∷ []) (a ∷ b ∷ []) s (short-32 a f, (short-32 b g, tt)) (ap Some (sym e)) (both (is_in (signed 32) a) (is_in (signed 32) b && true) (in-32 a f) (both (is_in (signed 32) b) true (in-32 b g) refl)) refl

-- ---- decimals of 256 bits

halves-go : (p k : ℕ) (s : List ℕ) → ((v : i256) → HasHalves v → ¬ (s ≡ decimal_text k (int256_value v))) → (zs : List ℤ) → text_of_numbers (Decimal256 p k) zs ≡ Some s → are_in (signed 128 ∷ unsigned 128 ∷ []) zs ≡ true → ⊥
halves-go p k s none [] e i = false≢true i
halves-go p k s none (a ∷ []) e i = false≢true (right (is_in (signed 128) a) false i)
halves-go p k s none (a ∷ pos n ∷ []) e i =
    let low = left (is_in (unsigned 128) (pos n)) true (right (is_in (signed 128) a) (is_in (unsigned 128) (pos n) && true) i) in
    none (record { high = a; low = n }) (fits-128 a (left (is_in (signed 128) a) (is_in (unsigned 128) (pos n) && true) i), unsigned-in 128 n low) (told (is_low_half (pos n)) (decimal_text k (of_halves a (pos n))) s e).1
halves-go p k s none (a ∷ negsuc n ∷ []) e i = false≢true (right (is_in (signed 128) a) false i)
halves-go p k s none (a ∷ b ∷ x ∷ xs) e i = false≢true (right (is_in (unsigned 128) b) false (right (is_in (signed 128) a) (is_in (unsigned 128) b && false) i))

pub halves-none : (p k : ℕ) (s : List ℕ) → ((v : i256) → HasHalves v → ¬ (s ≡ decimal_text k (int256_value v))) → value_error_of primitive.Int256 (Decimal256 p k) (string s) ≡ Some InvalidText
halves-none p k s none = text-none (Decimal256 p k) (signed 128 ∷ unsigned 128 ∷ []) s (halves-go p k s none)

-- an integer of 256 bits and its text
record IsRead (p k : ℕ) (s : List ℕ) (v : i256) : Type 0 where
  pub short : NumbersFitIn128Bits (v.high ∷ pos v.low ∷ [])
  pub text : text_of_numbers (Decimal256 p k) (v.high ∷ pos v.low ∷ []) ≡ Some s
  pub within : are_in (signed 128 ∷ unsigned 128 ∷ []) (v.high ∷ pos v.low ∷ []) ≡ true

is-read : (p k : ℕ) (s : List ℕ) (v : i256) → HasHalves v → s ≡ decimal_text k (int256_value v) → IsRead p k s v
is-read p k s v h e =
    let low : is_in (unsigned 128) (pos v.low) ≡ true = sym (low_half v.low h.1) in
    record {
      short = (short-128 v.high h.0, (h.1, tt));
      text = ap (λ b. if b then Some (decimal_text k (int256_value v)) else None) low ∙ ap Some (sym e);
      within = both (is_in (signed 128) v.high) (is_in (unsigned 128) (pos v.low) && true) (in-128 v.high h.0) (both (is_in (unsigned 128) (pos v.low)) true low refl);
    }

pub halves-some : (p k : ℕ) (s : List ℕ) (v : i256) → HasHalves v → s ≡ decimal_text k (int256_value v) → nat_lt (unsigned_abs (int256_value v)) (10 ^ p) ≡ true
    → (value_error_of primitive.Int256 (Decimal256 p k) (string s) ≡ None) × (unwrap_or (numbers_of_text (Decimal256 p k) s) [] ≡ v.high ∷ pos v.low ∷ [])
halves-some p k s v h e l =
    let r = is-read p k s v h e in
    text-some (Decimal256 p k) (signed 128 ∷ unsigned 128 ∷ []) (v.high ∷ pos v.low ∷ []) s r.short r.text r.within l

pub halves-precise : (p k : ℕ) (s : List ℕ) (v : i256) → HasHalves v → s ≡ decimal_text k (int256_value v) → nat_lt (unsigned_abs (int256_value v)) (10 ^ p) ≡ false → value_error_of primitive.Int256 (Decimal256 p k) (string s) ≡ Some PrecisionExceeded
halves-precise p k s v h e l =
    let r = is-read p k s v h e in
    text-precise (Decimal256 p k) (signed 128 ∷ unsigned 128 ∷ []) (v.high ∷ pos v.low ∷ []) s r.short r.text r.within l

-- ---- intervals of months, days and nanoseconds

months-go : (s : List ℕ) → ((p : ℤ × ℤ × ℤ) → FitsSigned w32 p.0 × FitsSigned w32 p.1 × FitsSigned w64 p.2 → ¬ (s ≡ month_day_nano_text p.0 p.1 p.2)) → (zs : List ℤ) → text_of_numbers MonthDayNano zs ≡ Some s → are_in (signed 32 ∷ signed 32 ∷ signed 64 ∷ []) zs ≡ true → ⊥
months-go s none [] e i = false≢true i
months-go s none (a ∷ []) e i = false≢true (right (is_in (signed 32) a) false i)
months-go s none (a ∷ b ∷ []) e i = false≢true (right (is_in (signed 32) b) false (right (is_in (signed 32) a) (is_in (signed 32) b && false) i))
months-go s none (a ∷ b ∷ x ∷ []) e i =
    let more = right (is_in (signed 32) a) (is_in (signed 32) b && (is_in (signed 64) x && true)) i in
    let last = right (is_in (signed 32) b) (is_in (signed 64) x && true) more in
    none (a, b, x) (fits-32 a (left (is_in (signed 32) a) (is_in (signed 32) b && (is_in (signed 64) x && true)) i), fits-32 b (left (is_in (signed 32) b) (is_in (signed 64) x && true) more), fits-64 x (left (is_in (signed 64) x) true last)) (sym (same_Some _ _ e))
months-go s none (a ∷ b ∷ x ∷ y ∷ ys) e i =
    let more = right (is_in (signed 32) a) (is_in (signed 32) b && (is_in (signed 64) x && false)) i in
    false≢true (right (is_in (signed 64) x) false (right (is_in (signed 32) b) (is_in (signed 64) x && false) more))

pub months-none : (s : List ℕ) → ((p : ℤ × ℤ × ℤ) → FitsSigned w32 p.0 × FitsSigned w32 p.1 × FitsSigned w64 p.2 → ¬ (s ≡ month_day_nano_text p.0 p.1 p.2)) → value_error_of primitive.MonthDayNano MonthDayNano (string s) ≡ Some InvalidText
months-none s none = text-none MonthDayNano (signed 32 ∷ signed 32 ∷ signed 64 ∷ []) s (months-go s none)

pub months-some : (s : List ℕ) (a b x : ℤ) → FitsSigned w32 a → FitsSigned w32 b → FitsSigned w64 x → s ≡ month_day_nano_text a b x → (value_error_of primitive.MonthDayNano MonthDayNano (string s) ≡ None) × (unwrap_or (numbers_of_text MonthDayNano s) [] ≡ a ∷ b ∷ x ∷ [])
months-some s a b x f g h e =
    text-some MonthDayNano (signed 32 ∷ signed 32 ∷ signed 64 ∷ []) (a ∷ b ∷ x ∷ []) s (short-32 a f, (short-32 b g, (short-64 x h, tt))) (ap Some (sym e))
    (both (is_in (signed 32) a) (is_in (signed 32) b && (is_in (signed 64) x && true)) (in-32 a f) (both (is_in (signed 32) b) (is_in (signed 64) x && true) (in-32 b g) (both (is_in (signed 64) x) true (in-64 x h) refl))) refl
