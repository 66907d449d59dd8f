-- The dates and times with a text are those that are read from it.
use Rattle.std.specs.Prelude.{is_some, if◌then◌else◌}
use Rattle.std.proofs.Common.{◌≡◌, ℕ, zero, suc, ◌+◌, ◌-◌, ◌*◌, ◌^◌, ◌<◌, ℤ, pos, negsuc, neg_ℤ, ◌+ℤ◌, Bool, true, false, IsTrue, List, [], ◌∷◌, Option, Some, None, FitsSigned, to_z, of_z, unsigned_abs, w32, w64, refl, sym, ap, ◌∙◌, subst, arith}
use Rattle.std.proofs.lemmas.Bool.{false≢true}
use Rattle.std.proofs.lemmas.Option.{same_Some}
use Rattle.std.proofs.lemmas.Slice.Eq.{bytes_eq-Decides}
use Rattle.std.proofs.Math.IntN.{+ℤ_idr}
use Rattle.std.specs.Int.{Width}
use Rattle.std.specs.Int.Signed.{mag}
use Rattle.std.specs.Option.{SomeIff}
use Rattle.nest_memory.specs.declared.datatypes.TimeUnit.{TimeUnit}
use Rattle.json_write.proofs.OneText.{one-text}
use Rattle.json_write.proofs.Signed.{signed}
use Rattle.json_write.specs.Formats.{text_of_numbers}
use Rattle.json_write.specs.Reading.{IsParsed}
use Rattle.json_write.specs.Times.{date_text, is_time_of_day, time_text, timestamp_text, unit_digits}
use Rattle.json_write.specs.declared.format.ValueFormat.{ValueFormat}
use Rattle.json_write.specs.declared.format.ValueFormat.TheVariants.{Date, Time, Timestamp}
use Rattle.cli_rows.specs.TimeLiterals.{day_with_text, first_that, has_text, integer_with_text}

nothing : (z : ℤ) → None ≡ Some z → ⊥
nothing z e = false≢true (ap is_some e)

-- ---- the first integer that passes a test

-- an integer that passes, by its distance from `z`
record Passes (p : ℤ → Bool) (z : ℤ) (n : ℕ) (y : ℤ) : Type 0 where
  pub steps : ℕ
  pub within : steps < n
  pub is : z +ℤ pos steps ≡ y
  pub passes : p y ≡ true

record HasValue (o : Option ℤ) : Type 0 where
  pub value : ℤ
  pub found : o ≡ Some value

first-none : (p : ℤ → Bool) (z : ℤ) → first_that p z 0 ≡ None
unfolding first_that
first-none p z = refl

first-more : (p : ℤ → Bool) (z : ℤ) (n : ℕ) → first_that p z (suc n) ≡ (if p z then Some z else first_that p (z +ℤ pos 1) n)
unfolding first_that
first-more p z n = refl

add-one : (z : ℤ) (k : ℕ) → (z +ℤ pos 1) +ℤ pos k ≡ z +ℤ pos (suc k)
add-one z k = omega (arith, signed)

passes-go : (p : ℤ → Bool) (z : ℤ) (n : ℕ) (y : ℤ) → (first_that p (z +ℤ pos 1) n ≡ Some y → Passes p (z +ℤ pos 1) n y) → (b : Bool) → p z ≡ b → (if b then Some z else first_that p (z +ℤ pos 1) n) ≡ Some y → Passes p z (suc n) y
passes-go p z n y more true h e =
    let same = same_Some _ _ e in
    record { steps = 0; within = omega arith; is = +ℤ_idr z ∙ same; passes = subst (λ x. p x ≡ true) same h }
passes-go p z n y more false h e =
    let w = more e in
    record { steps = suc w.steps; within = omega (arith, w.within); is = sym (add-one z w.steps) ∙ w.is; passes = w.passes }

passes-of : (p : ℤ → Bool) (z : ℤ) (n : ℕ) (y : ℤ) → first_that p z n ≡ Some y → Passes p z n y
passes-of p z zero y e = absurd (nothing y (sym (first-none p z) ∙ e))
passes-of p z (suc n) y e = passes-go p z n y (λ d. passes-of p (z +ℤ pos 1) n y d) (p z) refl (sym (first-more p z n) ∙ e)

value-go : (p : ℤ → Bool) (z : ℤ) (n : ℕ) → HasValue (first_that p (z +ℤ pos 1) n) → (b : Bool) → p z ≡ b → HasValue (first_that p z (suc n))
value-go p z n more true h = record { value = z; found = first-more p z n ∙ ap (λ b. if b then Some z else first_that p (z +ℤ pos 1) n) h }
value-go p z n more false h =
    record { value = more.value; found = first-more p z n ∙ (ap (λ b. if b then Some z else first_that p (z +ℤ pos 1) n) h ∙ more.found) }

has-value : (p : ℤ → Bool) (z : ℤ) (n k : ℕ) → k < n → p (z +ℤ pos k) ≡ true → HasValue (first_that p z n)
has-value p z zero k l e = absurd (omega (arith, l))
has-value p z (suc n) zero l e =
    record { value = z; found = first-more p z n ∙ ap (λ b. if b then Some z else first_that p (z +ℤ pos 1) n) (ap p (sym (+ℤ_idr z)) ∙ e) }
has-value p z (suc n) (suc k) l e = value-go p z n (has-value p (z +ℤ pos 1) n k (omega (arith, l)) (ap p (add-one z k) ∙ e)) (p z) refl

-- ---- integers from -h to below h

abbrev distance : ℕ → ℤ → ℕ
distance h (pos n) = n + h
distance h (negsuc n) = h - 1 - n

above : (h n : ℕ) → neg_ℤ (pos h) +ℤ pos (n + h) ≡ pos n
above h n = omega (arith, signed)

below : (h n : ℕ) → n < h → neg_ℤ (pos h) +ℤ pos (h - 1 - n) ≡ negsuc n
below h n l = omega (arith, signed)

distance-is : (h : ℕ) (z : ℤ) → mag z < h → neg_ℤ (pos h) +ℤ pos (distance h z) ≡ z
distance-is h (pos n) l = above h n
distance-is h (negsuc n) l = below h n (omega (arith, l))

distance-less : (h : ℕ) (z : ℤ) → mag z < h → distance h z < 2 * h
distance-less h (pos n) l = omega (arith, l)
distance-less h (negsuc n) l = omega (arith, l)

near : (h k : ℕ) (y : ℤ) → k < 2 * h → neg_ℤ (pos h) +ℤ pos k ≡ y → mag y < h
near h k (pos n) l e = omega (arith, signed, l, e)
near h k (negsuc n) l e = omega (arith, signed, l, e)

-- ---- texts

text-is : (o : Option (List ℕ)) (s : List ℕ) → has_text o s ≡ true → o ≡ Some s
text-is None s h = absurd (false≢true h)
text-is (Some text) s h = ap Some ((bytes_eq-Decides text s).0 h)

text-has : (o : Option (List ℕ)) (s : List ℕ) → o ≡ Some s → has_text o s ≡ true
text-has o s e = ap (λ x. has_text x s) e ∙ (bytes_eq-Decides s s).1 refl

head-same : (y z : ℤ) → (y ∷ []) ≡ (z ∷ []) → y ≡ z
head-same y z e = cc

-- the values of a format that fit are the integers from -h to below h with a text
record IsFormat (h : ℕ) (f : ValueFormat) (T : ℤ → List ℕ) (Fits : ℤ → Type 0) : Type 0 where
  pub text : (z : ℤ) → Fits z → text_of_numbers f (z ∷ []) ≡ Some (T z)
  pub back : (z : ℤ) (s : List ℕ) → mag z < h → text_of_numbers f (z ∷ []) ≡ Some s → Fits z × (s ≡ T z)
  pub small : (z : ℤ) → Fits z → mag z < h

abbrev test : ValueFormat → List ℕ → ℤ → Bool
test f s z = has_text (text_of_numbers f (z ∷ [])) s

-- what is read is the integer with the text
parsed : (h : ℕ) (f : ValueFormat) (T : ℤ → List ℕ) (Fits : ℤ → Type 0) (s : List ℕ) → IsFormat h f T Fits → (o : Option ℤ) → IsParsed T Fits s o → o ≡ integer_with_text h f s
parsed h f T Fits s k (Some z) read = sym (found.found ∙ ap Some same)
  where
    this : text_of_numbers f (z ∷ []) ≡ Some s
    this = k.text z read.0 ∙ ap Some (sym read.1)

    found : HasValue (first_that (test f s) (neg_ℤ (pos h)) (2 * h))
    found =
        has-value (test f s) (neg_ℤ (pos h)) (2 * h) (distance h z) (distance-less h z (k.small z read.0))
        (ap (test f s) (distance-is h z (k.small z read.0)) ∙ text-has (text_of_numbers f (z ∷ [])) s this)

    same : found.value ≡ z
    same =
        let w = passes-of (test f s) (neg_ℤ (pos h)) (2 * h) found.value found.found in
        head-same found.value z (one-text f (found.value ∷ []) (z ∷ []) s (text-is (text_of_numbers f (found.value ∷ [])) s w.passes) this)
parsed h f T Fits s k None read = by (first_that (test f s) (neg_ℤ (pos h)) (2 * h)) refl
  where
    by : (o : Option ℤ) → first_that (test f s) (neg_ℤ (pos h)) (2 * h) ≡ o → None ≡ o
    by None e = refl
    by (Some y) e =
        let w = passes-of (test f s) (neg_ℤ (pos h)) (2 * h) y e in
        let b = k.back y s (near h w.steps y w.within w.is) (text-is (text_of_numbers f (y ∷ [])) s w.passes) in
        absurd (read y b.0 b.1)

-- ---- integers that fewer bits hold

pub narrow : (T : ℤ → List ℕ) (w : Width) (s : List ℕ) (n : ℤ) → ((y z : ℤ) → T y ≡ T z → y ≡ z) → s ≡ T n → (r : Option ℤ) → SomeIff r (FitsSigned w n) n → IsParsed T (FitsSigned w) s r
narrow T w s n one t None h = λ z fits e. h (subst (FitsSigned w) (one z n (sym e ∙ t)) fits)
narrow T w s n one t (Some z) h = (subst (FitsSigned w) (sym h.1) h.0, t ∙ ap T (sym h.1))

pub back-64 : (z : ℤ) → FitsSigned w64 z → to_z w64 (of_z w64 z) ≡ z
back-64 z f = omega (arith, signed, f)

pub day-fits : (z : ℤ) → unsigned_abs z < 10 ^ 17 → FitsSigned w64 z
day-fits (pos n) h = record { sfits = omega (arith, h) }
day-fits (negsuc n) h = record { sfits = omega (arith, h) }

-- ---- the formats

fits-32 : (z : ℤ) → mag z < 2 ^ 31 → FitsSigned w32 z
fits-32 z l = record { sfits = omega (arith, l) }

small-32 : (z : ℤ) → FitsSigned w32 z → mag z < 2 ^ 31
small-32 z f = omega (arith, f.sfits)

fits-64 : (z : ℤ) → mag z < 2 ^ 63 → FitsSigned w64 z
fits-64 z l = record { sfits = omega (arith, l) }

small-64 : (z : ℤ) → FitsSigned w64 z → mag z < 2 ^ 63
small-64 z f = omega (arith, f.sfits)

told : (b : Bool) (t s : List ℕ) → (if b then Some t else None) ≡ Some s → (b ≡ true) × (s ≡ t)
told true t s e = (refl, sym (same_Some _ _ e))
told false t s e = absurd (false≢true (ap is_some e))

abbrev pub IsTime : TimeUnit → ℤ → Type 0
IsTime u n = FitsSigned w64 n × IsTrue (is_time_of_day (unit_digits u) n)

dates : IsFormat (2 ^ 31) Date date_text (FitsSigned w32)
dates = record { text = λ z f. refl; back = λ z s l e. (fits-32 z l, sym (same_Some _ _ e)); small = small-32 }

times : (u : TimeUnit) → IsFormat (2 ^ 63) (Time u) (time_text (unit_digits u)) (IsTime u)
times u = record {
  text = λ z f. ap (λ b. if b then Some (time_text (unit_digits u) z) else None) f.1;
  back = λ z s l e. let t = told (is_time_of_day (unit_digits u) z) (time_text (unit_digits u) z) s e in ((fits-64 z l, t.0), t.1);
  small = λ z f. small-64 z f.0;
}

timestamps : (u : TimeUnit) (utc : Bool) → IsFormat (2 ^ 63) (Timestamp u utc) (timestamp_text (unit_digits u) utc) (FitsSigned w64)
timestamps u utc = record { text = λ z f. refl; back = λ z s l e. (fits-64 z l, sym (same_Some _ _ e)); small = small-64 }

pub parsed-day : (s : List ℕ) (o : Option ℤ) → IsParsed date_text (FitsSigned w32) s o → o ≡ day_with_text s
parsed-day s o read = parsed (2 ^ 31) Date date_text (FitsSigned w32) s dates o read

pub parsed-time : (u : TimeUnit) (s : List ℕ) (o : Option ℤ) → IsParsed (time_text (unit_digits u)) (IsTime u) s o → o ≡ integer_with_text (2 ^ 63) (Time u) s
parsed-time u s o read = parsed (2 ^ 63) (Time u) (time_text (unit_digits u)) (IsTime u) s (times u) o read

pub parsed-timestamp : (u : TimeUnit) (utc : Bool) (s : List ℕ) (o : Option ℤ) → IsParsed (timestamp_text (unit_digits u) utc) (FitsSigned w64) s o → o ≡ integer_with_text (2 ^ 63) (Timestamp u utc) s
parsed-timestamp u utc s o read = parsed (2 ^ 63) (Timestamp u utc) (timestamp_text (unit_digits u) utc) (FitsSigned w64) s (timestamps u utc) o read
