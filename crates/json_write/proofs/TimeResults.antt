-- What is read from the text of times, by cases on the result.
use Rattle.std.proofs.Common.{◌≡◌, ◌≢◌, ℕ, zero, suc, ◌+◌, ◌-◌, ◌^◌, ◌<◌, Bool, true, false, cond, nat_eq, nat_lt, not, ◌&&◌, int_lt, List, [], ◌∷◌, ◌++◌, length, get_or, take, drop, Option, Some, None, refl, sym, ap, ◌∙◌, subst, arith, append_assoc, length-append, ℤ, pos, negsuc, ◌+ℤ◌, ◌*ℤ◌, unsigned_abs, FitsSigned, w64}
use Rattle.std.proofs.lemmas.List.{append-nil, same_from_push, drop-drop, drop_more, take-append-drop}
use Rattle.std.proofs.lemmas.Bool.Decides.{nat_tests}
use Rattle.std.specs.Int.{int_div_euclid, int_rem_euclid}
use native.Mathlib.Nat.{div-le_self}
use Rattle.std.specs.Option.{SomeIff}
use Rattle.json_write.specs.Digits.{signed_integer_text}
use Rattle.json_write.specs.Reading.{IsParsed, IsTimeOf}
use Rattle.json_write.specs.Times.{date_text, whole_seconds, subseconds, clock_text, clock_length, is_time_of_day, time_text, timestamp_text, millisecond_date_text}
use Rattle.json_write.proofs.Signed.{signed}
use Rattle.json_write.proofs.DigitFacts.{ten_some, length-fraction}
use Rattle.json_write.proofs.TimeFacts.{in_day, colon_at, clock_injective, remainder_bound, date_injective, timestamp_tail, length-clock, no_letters_integer, has_letter, zero_true}
use Rattle.json_write.proofs.TimeReadingFacts.{split_tail}

-- ---- lists at an index

get_or_from : (xs : List ℕ) (i : ℕ) → get_or (drop i xs) 0 0 ≡ get_or xs i 0
get_or_from xs zero = refl
get_or_from [] (suc i) = refl
get_or_from (x ∷ xs) (suc i) = get_or_from xs i

drop_next : (xs : List ℕ) (i : ℕ) → drop (i + 1) xs ≡ drop 1 (drop i xs)
drop_next xs i = sym (drop-drop 1 i xs)

joined : (xs : List ℕ) (i y : ℕ) (l : ℕ) → i + suc l ≡ length xs → get_or xs i 0 ≡ y → xs ≡ take i xs ++ (y ∷ drop (i + 1) xs)
joined xs i y l h e =
    let step = drop_more xs i 0 (omega arith) in
    sym (take-append-drop i xs) ∙ ap (λ ys. take i xs ++ ys) step ∙ ap (λ z. take i xs ++ (z ∷ drop (i + 1) xs)) e

-- ---- seconds and days

whole_day : (w day seconds : ℤ) (second : ℕ) → int_div_euclid w (pos 86_400) ≡ day → unsigned_abs (int_rem_euclid w (pos 86_400)) ≡ second → seconds ≡ day *ℤ pos 86_400 +ℤ pos second → w ≡ seconds
whole_day w day seconds second q r e = omega (arith, signed)

split_day : (w day seconds : ℤ) (second : ℕ) → second < 86_400 → w ≡ seconds → seconds ≡ day *ℤ pos 86_400 +ℤ pos second → (int_div_euclid w (pos 86_400) ≡ day) × (unsigned_abs (int_rem_euclid w (pos 86_400)) ≡ second)
split_day w day seconds second h e f = (omega (arith, signed), omega (arith, signed))

-- ---- times of day

by_cases : {P : Type 0} (b : Bool) → (b ≡ true → P) → (b ≡ false → P) → P
by_cases true f g = f refl
by_cases false f g = g refl

time_in : (k : ℕ) (n : ℤ) → is_time_of_day k n ≡ true → time_text k n ≡ clock_text k (unsigned_abs (whole_seconds k n)) (subseconds k n)
time_in k n h = ap (λ b. cond b (clock_text k (unsigned_abs (whole_seconds k n)) (subseconds k n)) (signed_integer_text n)) h

time_out : (k : ℕ) (n : ℤ) → is_time_of_day k n ≡ false → time_text k n ≡ signed_integer_text n
time_out k n h = ap (λ b. cond b (clock_text k (unsigned_abs (whole_seconds k n)) (subseconds k n)) (signed_integer_text n)) h

no_colon : (k s f : ℕ) (n : ℤ) → ¬ (clock_text k s f ≡ signed_integer_text n)
no_colon k s f n e = omega (arith, sym (colon_at k s f) ∙ ap (λ xs. get_or xs 2 0) e, no_letters_integer n 2)

within_day : (s : ℕ) → s < 86_400 → (not (nat_lt s 0) && nat_lt s 86_400) ≡ true
within_day s h = grind (arith, nat_tests)

pub time_result : (text : List ℕ) (k second fraction : ℕ) (seconds : ℤ) → second < 86_400 → fraction < 10 ^ k → seconds ≡ pos second → text ≡ clock_text k second fraction → (r : Option ℤ) → IsTimeOf k seconds fraction r → IsParsed (time_text k) (FitsSigned w64) text r
time_result text k second fraction seconds small part same t None h = λ n fits e. by_cases (is_time_of_day k n)
    (λ is.
    let day = in_day (whole_seconds k n) is in
    let parts = clock_injective k second fraction (unsigned_abs (whole_seconds k n)) (subseconds k n) small day.0 part (remainder_bound (10 ^ k) n (ten_some k)) (sym t ∙ e ∙ time_in k n is) in
    h n fits (day.1 ∙ ap pos (sym parts.0) ∙ sym same) (sym parts.1))
    (λ isnt. no_colon k second fraction n (sym t ∙ e ∙ time_out k n isnt))
time_result text k second fraction seconds small part same t (Some n) h =
    let whole = h.1 ∙ same in
    let is : is_time_of_day k n ≡ true = ap (λ z. not (int_lt z (pos 0)) && int_lt z (pos 86_400)) whole ∙ within_day second small in
    (h.0, t ∙ ap (λ z. clock_text k (unsigned_abs z) fraction) (sym whole) ∙ ap (λ f. clock_text k (unsigned_abs (whole_seconds k n)) f) (sym h.2) ∙ sym (time_in k n is))

pub time_number : (text : List ℕ) (k : ℕ) → ((p : ℕ × ℕ) → (p.0 < 86_400) × (p.1 < 10 ^ k) → ¬ (text ≡ clock_text k p.0 p.1)) → (r : Option ℤ) → IsParsed signed_integer_text (λ n. FitsSigned w64 n × (is_time_of_day k n ≡ false)) text r → IsParsed (time_text k) (FitsSigned w64) text r
time_number text k none None h = λ n fits e. by_cases (is_time_of_day k n)
    (λ is. none (unsigned_abs (whole_seconds k n), subseconds k n) ((in_day (whole_seconds k n) is).0, remainder_bound (10 ^ k) n (ten_some k)) (e ∙ time_in k n is))
    (λ isnt. h n (fits, isnt) (e ∙ time_out k n isnt))
time_number text k none (Some n) h = (h.0.0, h.1 ∙ sym (time_out k n h.0.1))

-- ---- timestamps

-- the parts of a timestamp without zone, whose `T` is at `at`
pub record IsStamp (text : List ℕ) (k : ℕ) (n : ℤ) (at : ℕ) : Type 0 where
  pub long : at < length text
  pub date : take at text ≡ date_text (int_div_euclid (whole_seconds k n) (pos 86_400))
  pub letter : get_or text at 0 ≡ 84
  pub clock : drop (at + 1) text ≡ clock_text k (unsigned_abs (int_rem_euclid (whole_seconds k n) (pos 86_400))) (subseconds k n)

length-stamp : (k : ℕ) (n : ℤ) → length (timestamp_tail k false n) ≡ clock_length k
length-stamp k n =
    let s = unsigned_abs (int_rem_euclid (whole_seconds k n) (pos 86_400)) in
    ap length (append-nil (clock_text k s (subseconds k n))) ∙ length-clock k s (subseconds k n) ∙ ap (λ i. 8 + i) (length-fraction k (subseconds k n))

pub stamp_long : (text : List ℕ) (k : ℕ) (n : ℤ) → text ≡ timestamp_text k false n → clock_length k < length text
stamp_long text k n e =
    omega (arith, ap length e, length-append (date_text (int_div_euclid (whole_seconds k n) (pos 86_400))) (84 ∷ timestamp_tail k false n), length-stamp k n)

pub stamp_parts : (text : List ℕ) (k at : ℕ) (n : ℤ) → text ≡ timestamp_text k false n → at + suc (clock_length k) ≡ length text → IsStamp text k n at
stamp_parts text k at n e l =
    let s = unsigned_abs (int_rem_euclid (whole_seconds k n) (pos 86_400)) in
    let parts = split_tail text (date_text (int_div_euclid (whole_seconds k n) (pos 86_400))) (84 ∷ timestamp_tail k false n) (suc (clock_length k)) e (ap suc (length-stamp k n)) in
    let here : length text - suc (clock_length k) ≡ at = omega arith in
    let tail = rw here at parts.1 in
    record {
      long = omega arith;
      date = rw here at parts.0;
      letter = sym (get_or_from text at) ∙ ap (λ xs. get_or xs 0 0) tail;
      clock = drop_next text at ∙ ap (λ xs. drop 1 xs) tail ∙ append-nil (clock_text k s (subseconds k n));
    }

pub stamp_result : (text : List ℕ) (k at second fraction : ℕ) (day seconds : ℤ) → at + suc (clock_length k) ≡ length text → get_or text at 0 ≡ 84 → take at text ≡ date_text day → drop (at + 1) text ≡ clock_text k second fraction → second < 86_400 → fraction < 10 ^ k → seconds ≡ day *ℤ pos 86_400 +ℤ pos second → (r : Option ℤ) → IsTimeOf k seconds fraction r → IsParsed (timestamp_text k false) (FitsSigned w64) text r
stamp_result text k at second fraction day seconds l letter date clock small part same None h = λ n fits e.
    let p = stamp_parts text k at n e l in
    let days = date_injective day (int_div_euclid (whole_seconds k n) (pos 86_400)) (sym date ∙ p.date) in
    let clocks = clock_injective k second fraction (unsigned_abs (int_rem_euclid (whole_seconds k n) (pos 86_400))) (subseconds k n) small (remainder_bound 86_400 (whole_seconds k n) (omega arith)) part (remainder_bound (10 ^ k) n (ten_some k)) (sym clock ∙ p.clock) in
    h n fits (whole_day (whole_seconds k n) day seconds second (sym days) (sym clocks.0) same) (sym clocks.1)
stamp_result text k at second fraction day seconds l letter date clock small part same (Some n) h =
    let split = split_day (whole_seconds k n) day seconds second small h.1 same in
    let stamp = λ (z : ℤ) (s f : ℕ). date_text z ++ (84 ∷ (clock_text k s f ++ [])) in (
      h.0,
      joined text at 84 (clock_length k) l letter ∙ ap (λ xs. xs ++ (84 ∷ drop (at + 1) text)) date ∙ ap (λ xs. date_text day ++ (84 ∷ xs)) (clock ∙ sym (append-nil (clock_text k second fraction)))
          ∙ ap (λ z. stamp z second fraction) (sym split.0) ∙ ap (λ s. stamp (int_div_euclid (whole_seconds k n) (pos 86_400)) s fraction) (sym split.1) ∙ ap (λ f. stamp (int_div_euclid (whole_seconds k n) (pos 86_400)) (unsigned_abs (int_rem_euclid (whole_seconds k n) (pos 86_400))) f) (sym h.2),
    )

-- ---- `Z` at the end

stamp_zone : (k : ℕ) (n : ℤ) → timestamp_text k true n ≡ timestamp_text k false n ++ 90 ∷ []
stamp_zone k n =
    let date = date_text (int_div_euclid (whole_seconds k n) (pos 86_400)) in
    let clock = clock_text k (unsigned_abs (int_rem_euclid (whole_seconds k n) (pos 86_400))) (subseconds k n) in
    ap (λ xs. date ++ (84 ∷ (xs ++ 90 ∷ []))) (sym (append-nil clock)) ∙ sym (append_assoc date (84 ∷ (clock ++ [])) (90 ∷ []))

pub zone_result : (text front : List ℕ) (k : ℕ) → text ≡ front ++ 90 ∷ [] → (r : Option ℤ) → IsParsed (timestamp_text k false) (FitsSigned w64) front r → IsParsed (timestamp_text k true) (FitsSigned w64) text r
zone_result text front k t None h = λ n fits e. h n fits (same_from_push front (timestamp_text k false n) 90 90 (sym t ∙ e ∙ stamp_zone k n)).0
zone_result text front k t (Some n) h = (h.0, t ∙ ap (λ xs. xs ++ 90 ∷ []) h.1 ∙ sym (stamp_zone k n))

pub zone_missing : (text front : List ℕ) (last k : ℕ) (n : ℤ) → text ≡ front ++ last ∷ [] → last ≢ 90 → ¬ (text ≡ timestamp_text k true n)
zone_missing text front last k n t differs e = differs (same_from_push front (timestamp_text k false n) last 90 (sym t ∙ e ∙ stamp_zone k n)).1

-- ---- dates in milliseconds

abbrev pub ms_rest : ℤ → ℕ
ms_rest n = unsigned_abs (int_rem_euclid n (pos 86_400_000))

ms_in : (n : ℤ) → nat_eq (ms_rest n) 0 ≡ true → millisecond_date_text n ≡ date_text (int_div_euclid n (pos 86_400_000))
ms_in n h = ap (λ b. cond b (date_text (int_div_euclid n (pos 86_400_000))) (timestamp_text 3 false n)) h

ms_out : (n : ℤ) → nat_eq (ms_rest n) 0 ≡ false → millisecond_date_text n ≡ timestamp_text 3 false n
ms_out n h = ap (λ b. cond b (date_text (int_div_euclid n (pos 86_400_000))) (timestamp_text 3 false n)) h

whole_ms : (n day : ℤ) → ms_rest n ≡ 0 → int_div_euclid n (pos 86_400_000) ≡ day → n ≡ day *ℤ pos 86_400_000
whole_ms n day r q = omega (arith, signed)

times_ms : (v day : ℤ) → v ≡ day *ℤ pos 86_400_000 → (int_div_euclid v (pos 86_400_000) ≡ day) × (ms_rest v ≡ 0)
times_ms v day e = (omega (arith, signed), omega (arith, signed))

eq_true : (x : ℕ) → x ≡ 0 → nat_eq x 0 ≡ true
eq_true x e = grind (arith, nat_tests)

eq_false : (x : ℕ) → x ≢ 0 → nat_eq x 0 ≡ false
eq_false x e = grind (arith, nat_tests)

from_eq_false : (x : ℕ) → nat_eq x 0 ≡ false → x ≢ 0
from_eq_false x e z = let both = sym e ∙ eq_true x z in cc

ms_bound : (n : ℤ) → FitsSigned w64 n → unsigned_abs (int_div_euclid n (pos 86_400_000)) < 10 ^ 17
ms_bound (pos a) f = omega (arith, f.sfits)
ms_bound (negsuc a) f = omega (arith, f.sfits)

pub date_ms_result : (text : List ℕ) (day : ℤ) → text ≡ date_text day → (r : Option ℤ) → SomeIff r (FitsSigned w64 (day *ℤ pos 86_400_000)) (day *ℤ pos 86_400_000) → IsParsed millisecond_date_text (FitsSigned w64) text r
date_ms_result text day t None h = λ n fits e. by_cases (nat_eq (ms_rest n) 0)
    (λ is. h (subst (FitsSigned w64) (whole_ms n day (zero_true (ms_rest n) is) (sym (date_injective day (int_div_euclid n (pos 86_400_000)) (sym t ∙ e ∙ ms_in n is)))) fits))
    (λ isnt. has_letter day (int_div_euclid (whole_seconds 3 n) (pos 86_400)) (timestamp_tail 3 false n) (sym t ∙ e ∙ ms_out n isnt))
date_ms_result text day t (Some v) h =
    let parts = times_ms v day h.1 in
    (subst (FitsSigned w64) (sym h.1) h.0, t ∙ ap date_text (sym parts.0) ∙ sym (ms_in v (eq_true (ms_rest v) parts.1)))

pub time_ms_result : (text : List ℕ) → ((d : ℤ) → unsigned_abs d < 10 ^ 17 → ¬ (text ≡ date_text d)) → (r : Option ℤ) → IsParsed (timestamp_text 3 false) (λ n. FitsSigned w64 n × (ms_rest n ≢ 0)) text r → IsParsed millisecond_date_text (FitsSigned w64) text r
time_ms_result text none None h = λ n fits e. by_cases (nat_eq (ms_rest n) 0)
    (λ is. none (int_div_euclid n (pos 86_400_000)) (ms_bound n fits) (e ∙ ms_in n is))
    (λ isnt. h n (fits, from_eq_false (ms_rest n) isnt) (e ∙ ms_out n isnt))
time_ms_result text none (Some v) h = (h.0.0, h.1 ∙ sym (ms_out v (eq_false (ms_rest v) h.0.1)))

-- ---- days of timestamps

pub day_bound : (k : ℕ) (n : ℤ) → FitsSigned w64 n → unsigned_abs (int_div_euclid (whole_seconds k n) (pos 86_400)) < 10 ^ 17
day_bound k (pos a) f = omega (arith, f.sfits, div-le_self a (10 ^ k))
day_bound k (negsuc a) f = omega (arith, f.sfits, div-le_self a (10 ^ k))
