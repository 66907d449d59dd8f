use Rattle.std.proofs.Common.{◌≡◌, ℕ, ◌+◌, ◌-◌, ◌*◌, ◌^◌, ◌<◌, ◌≤◌, ◌↔◌, ◌++◌, Bool, List, length, take, drop, sym, ap, ◌∙◌, subst, arith, length-append}
use Rattle.std.specs.Prelude.{IsTrue, min}
use Rattle.std.specs.Str.Parse.{AllDigits, digits_value}
use Rattle.fast_float.specs.Text.{Parts, digits_of, tens_up, tens_down}
use Rattle.fast_float.proofs.Rows.{AllDigits-append}
use Rattle.json_read.specs.ScaledNumbers.{IsScaled, spec_digits_before_cut}
use Rattle.json_read.proofs.HalfDigits.{place-is, scaled-is, past-front, past-limit}
use Rattle.json_read.proofs.half_numbers.scale.Goals as goal

-- the parts of a numeral, of which the code has the digits before and after the point
record IsPlaced (p : Parts) (whole fraction : List ℕ) (kept zeros : ℕ) : Type 0 where
  before : whole ≡ p.whole
  after : fraction ≡ p.fraction
  digits : AllDigits 10 (whole ++ fraction)
  short : (length whole < 2 ^ 63) × (length fraction < 2 ^ 63)
  kept_is : kept ≡ min (spec_digits_before_cut p) (length whole + length fraction)
  zeros_is : zeros ≡ min (spec_digits_before_cut p - (length whole + length fraction)) 31

module _ (p : Parts) (whole fraction : List ℕ) (kept zeros : ℕ) (is : IsPlaced p whole fraction kept zeros) where
  abbrev cut : ℕ
  cut = length (p.whole ++ p.fraction) - (tens_down p - (tens_up p + 25))

  abbrev more_zeros : ℕ
  more_zeros = min (tens_up p + 25 - tens_down p) 31

  all-digits : whole ++ fraction ≡ p.whole ++ p.fraction
  all-digits = ap (λ xs. xs ++ fraction) is.before ∙ ap (λ xs. p.whole ++ xs) is.after

  digits-are : AllDigits 10 (p.whole ++ p.fraction)
  digits-are = subst (AllDigits 10) all-digits is.digits

  lengths : length whole + length fraction ≡ length p.whole + length p.fraction
  lengths = ap (λ xs. length xs + length fraction) is.before ∙ ap (λ xs. length p.whole + length xs) is.after

  place : (min (spec_digits_before_cut p) (length p.whole + length p.fraction) ≡ length p.whole + length p.fraction - (tens_down p - (tens_up p + 25)))
      × (min (spec_digits_before_cut p - (length p.whole + length p.fraction)) 31 ≡ more_zeros)
  place =
      place-is p.exponent_negative (length p.whole) (length p.fraction) (digits_value 10 p.exponent)
      (subst (λ xs. length xs < 2 ^ 63) is.before is.short.0) (subst (λ xs. length xs < 2 ^ 63) is.after is.short.1)

  kept-is : kept ≡ cut
  kept-is = is.kept_is ∙ ap (λ n. min (spec_digits_before_cut p) n) lengths ∙ place.0 ∙ ap (λ n. n - (tens_down p - (tens_up p + 25))) (sym (length-append p.whole p.fraction))

  zeros-is : zeros ≡ more_zeros
  zeros-is = is.zeros_is ∙ ap (λ n. min (spec_digits_before_cut p - n) 31) lengths ∙ place.1

  front-is : digits_value 10 (take kept (whole ++ fraction)) ≡ digits_value 10 (take cut (p.whole ++ p.fraction))
  front-is = ap (λ n. digits_value 10 (take n (whole ++ fraction))) kept-is ∙ ap (λ xs. digits_value 10 (take cut xs)) all-digits

  rest-is : digits_value 10 (drop kept (whole ++ fraction)) ≡ digits_value 10 (drop cut (p.whole ++ p.fraction))
  rest-is = ap (λ n. digits_value 10 (drop n (whole ++ fraction))) kept-is ∙ ap (λ xs. digits_value 10 (drop cut xs)) all-digits

  front-past : 2 ^ 100 ≤ digits_value 10 (take kept (whole ++ fraction)) → 2 ^ 100 * 10 ^ tens_down p ≤ digits_of p * 10 ^ tens_up p * 10 ^ 25
  front-past h = past-front (p.whole ++ p.fraction) (tens_up p) (tens_down p) digits-are (subst (λ n. 2 ^ 100 ≤ n) front-is h)

  units-are : (front : ℕ) → front ≡ digits_value 10 (take kept (whole ++ fraction)) → front * 10 ^ zeros ≡ digits_value 10 (take cut (p.whole ++ p.fraction)) * 10 ^ more_zeros
  units-are front e = ap (λ n. n * 10 ^ zeros) (e ∙ front-is) ∙ ap (λ n. digits_value 10 (take cut (p.whole ++ p.fraction)) * 10 ^ n) zeros-is

  all-past : (front : ℕ) → front ≡ digits_value 10 (take kept (whole ++ fraction)) → 2 ^ 100 ≤ front * 10 ^ zeros → 2 ^ 100 * 10 ^ tens_down p ≤ digits_of p * 10 ^ tens_up p * 10 ^ 25
  all-past front e h = past-limit (p.whole ++ p.fraction) (tens_up p) (tens_down p) digits-are (subst (λ n. 2 ^ 100 ≤ n) (units-are front e) h)

  scaled : (front units : ℕ) (more : Bool) → front ≡ digits_value 10 (take kept (whole ++ fraction)) → units ≡ front * 10 ^ zeros → units < 2 ^ 100
      → (IsTrue more ↔ 0 < digits_value 10 (drop kept (whole ++ fraction))) → IsScaled (digits_of p * 10 ^ tens_up p) (10 ^ tens_down p) units more
  scaled front units more e f small m =
      scaled-is (p.whole ++ p.fraction) (tens_up p) (tens_down p) digits-are units more (f ∙ units-are front e) small (subst (λ n. IsTrue more ↔ 0 < n) rest-is m)

pub front_value-requires-clause-digits : goal.front_value-requires-clause-digits
front_value-requires-clause-digits c = AllDigits-append _ _ c.whole-whole.ensures.digits c.fraction-fraction.ensures.digits

pub has_more-requires-clause-digits : goal.has_more-requires-clause-digits
has_more-requires-clause-digits c = AllDigits-append _ _ c.whole-whole.ensures.digits c.fraction-fraction.ensures.digits

pub returns-in_default-clause-none : goal.returns-in_default-clause-none
returns-in_default-clause-none c =
    front-past c.args.number.now c.whole-whole.result.now c.fraction-fraction.result.now c.min-kept.result c.min-zeros.result
    (record {
      before = c.whole-whole.ensures.value;
      after = c.fraction-fraction.ensures.value;
      digits = AllDigits-append _ _ c.whole-whole.ensures.digits c.fraction-fraction.ensures.digits;
      short = (omega arith, omega arith);
      kept_is = c.min-kept.ensures ∙ ap (λ n. min n (length c.whole-whole.result.now + length c.fraction-fraction.result.now)) c.digits_before_cut-place.ensures;
      zeros_is = c.min-zeros.ensures ∙ ap (λ n. min n 31) (c.saturating_sub.ensures ∙ ap (λ n. n - (length c.whole-whole.result.now + length c.fraction-fraction.result.now)) c.digits_before_cut-place.ensures);
    })
    c.in_default.ensures.none

pub returns-in_default-with_zeros-clause-none : goal.returns-in_default-with_zeros-clause-none
returns-in_default-with_zeros-clause-none c =
    all-past c.args.number.now c.whole-whole.result.now c.fraction-fraction.result.now c.min-kept.result c.min-zeros.result
    (record {
      before = c.whole-whole.ensures.value;
      after = c.fraction-fraction.ensures.value;
      digits = AllDigits-append _ _ c.whole-whole.ensures.digits c.fraction-fraction.ensures.digits;
      short = (omega arith, omega arith);
      kept_is = c.min-kept.ensures ∙ ap (λ n. min n (length c.whole-whole.result.now + length c.fraction-fraction.result.now)) c.digits_before_cut-place.ensures;
      zeros_is = c.min-zeros.ensures ∙ ap (λ n. min n 31) (c.saturating_sub.ensures ∙ ap (λ n. n - (length c.whole-whole.result.now + length c.fraction-fraction.result.now)) c.digits_before_cut-place.ensures);
    })
    c.in-Some.front c.in-Some.ensures.some.0 c.in_default-with_zeros.ensures.none

pub returns-clause-some : goal.returns-clause-some
returns-clause-some c = (
  scaled c.args.number.now c.whole-whole.result.now c.fraction-fraction.result.now c.min-kept.result c.min-zeros.result
      (record {
        before = c.whole-whole.ensures.value;
        after = c.fraction-fraction.ensures.value;
        digits = AllDigits-append _ _ c.whole-whole.ensures.digits c.fraction-fraction.ensures.digits;
        short = (omega arith, omega arith);
        kept_is = c.min-kept.ensures ∙ ap (λ n. min n (length c.whole-whole.result.now + length c.fraction-fraction.result.now)) c.digits_before_cut-place.ensures;
        zeros_is = c.min-zeros.ensures ∙ ap (λ n. min n 31) (c.saturating_sub.ensures ∙ ap (λ n. n - (length c.whole-whole.result.now + length c.fraction-fraction.result.now)) c.digits_before_cut-place.ensures);
      })
      c.in-Some.front c.in-Some-with_zeros.units c.has_more.result c.in-Some.ensures.some.0 c.in-Some-with_zeros.ensures.some.0 c.in-Some-with_zeros.ensures.some.1 c.has_more.ensures,
  c.in-Some-with_zeros.ensures.some.1,
)
