-- The shortest decimal reads as the number, and has at most 17 digits.
use Rattle.std.proofs.Common.{◌≡◌, ℕ, zero, suc, ◌+◌, ◌-◌, ◌*◌, ◌/◌, ◌^◌, ◌<◌, ◌≤◌, Bool, true, false, inl, inr, refl, sym, subst, ap, ◌∙◌, arith, lit≤, mod-lt, mul-pos, mul-le-mul_right, mul-lt-mul_of_pos_right, le_of_mul-le-mul_right, lt_of_mul-lt-mul_right, div-add-mod', le_trans, lt_of_lt_of_le, ◌||◌}
use Rattle.std.proofs.lemmas.Bool.{and_parts, cases_lt, eqb-true, eq-eqb, false≢true}
use native.Mathlib.Nat.{mul-one}
use lib.Ieee.{Format, binary32, binary64, prec, low, hid, ones, of_bits, round}
use lib.Ieee.Bits.{of_bits-to_bits}
use lib.Ieee.Fits.{round-fits}
use Rattle.float_text.specs.Shortest.{closest_reads, digits_at, next_reads, numerator, reads_as, rounded, shortest_decimal, some_reads, tens_down, tens_up}
use Rattle.float_text.proofs.Closest.{off-below}
use Rattle.float_text.proofs.Exact.{numerator-lt, significand-some}
use Rattle.float_text.proofs.Powers.{power-pos}
use Rattle.float_text.proofs.Rounding.{cross}
use Rattle.float_text.proofs.Search.{found, from_power, reads-as-nearest, step}
use Rattle.float_text.proofs.Seventeen.{rounded-reads}

-- an integer reads as the number and has at most 17 digits
abbrev Reads : Format → ℕ → ℕ × ℕ → Type 0
Reads f bits d = (reads_as f bits d.0 d.1 ≡ true) × (d.0 ≤ 10 ^ 17 + 1) × (d.1 ≤ 650)

abbrev Many : Format → ℕ → ℕ → Type 0
Many f bits p = 10 ^ 16 * (2 ^ low f * tens_up p) ≤ numerator f bits * tens_down p

abbrev Few : Format → ℕ → ℕ → Type 0
Few f bits p = numerator f bits * tens_down p < 10 ^ 17 * (2 ^ low f * tens_up p)

unit : (f : Format) (p : ℕ) → 0 < 2 ^ low f * tens_up p
unit f p = mul-pos (power-pos 2 (low f) (omega arith)) (power-pos 10 (p - 342) (omega arith))

-- fewer digits at a larger power
fewer : (f : Format) (bits p : ℕ) → Few f bits p → Few f bits (p + 1)
fewer f bits p h =
    let turn = cross (numerator f bits) (2 ^ low f) p 1 in
    scale (numerator f bits * tens_down (p + 1)) (2 ^ low f * tens_up (p + 1)) (numerator f bits * tens_down p) (2 ^ low f * tens_up p) turn h (unit f (p + 1)) (unit f p)
  where
    scale : (x y a b : ℕ) → x * (b * 10 ^ 1) ≡ a * y → a < 10 ^ 17 * b → 0 < y → 0 < b → x < 10 ^ 17 * y
    scale x y a b e l Y B = lt_of_mul-lt-mul_right b (omega (arith, e, mul-lt-mul_of_pos_right l Y))

few-at : (f : Format) (bits p n : ℕ) → Few f bits p → Few f bits (p + n)
few-at f bits p zero h = let e : p ≡ p + 0 = omega arith in subst (Few f bits) e h
few-at f bits p (suc n) h = let e : p + n + 1 ≡ p + suc n = omega arith in subst (Few f bits) e (fewer f bits (p + n) (few-at f bits p n h))

few-digits : (f : Format) (bits p : ℕ) → Few f bits p → rounded f bits p ≤ 10 ^ 17
unfolding rounded
few-digits f bits p h =
    let a = numerator f bits * tens_down p in
    let b = 2 ^ low f * tens_up p in
    let B = unit f p in
    let from : a / b * b ≤ a = omega (arith, div-add-mod' a b) in
    let below : a < a / b * b + b = omega (arith, div-add-mod' a b, mod-lt a B) in
    let up = off-below a b (a / b) from below in
    bound _ b B (omega (arith, up, h))
  where
    bound : (q b : ℕ) → 0 < b → 2 * (q * b) < 2 * (10 ^ 17 * b) + b → q ≤ 10 ^ 17
    bound q b B h = elim (cases_lt (10 ^ 17) q) [
      | inr l ↦ l
      | inl g ↦ absurd (omega (arith, mul-le-mul_right b g))
    ]

reads-closest : (f : Format) (bits p : ℕ) → 0 < bits → bits < ones f * hid f → Many f bits p → closest_reads f bits p ≡ true
reads-closest f bits p some finite many = reads-as-nearest f bits (rounded f bits p) p bits (rounded-reads f bits p some finite many) ∙ eq-eqb bits bits refl

reads-some : (f : Format) (bits p : ℕ) (b : Bool) → closest_reads f bits p ≡ b → some_reads f bits p ≡ true → Few f bits p → p ≤ 650 → Reads f bits (digits_at f bits p, p)
reads-some f bits p true e s few within = rw e (e, omega (arith, few-digits f bits p few), within)
reads-some f bits p false e s few within =
    let next : next_reads f bits p ≡ true = sym (ap (λ (b : Bool). b || next_reads f bits p) e) ∙ s in
    rw e ((and_parts _ _ next).1, omega (arith, few-digits f bits p few), within)

-- the search from a power at which the number has at least 17 digits, or from a larger one
down : (f : Format) (bits p n : ℕ) (b : Bool) → 0 < bits → bits < ones f * hid f → Many f bits p → Few f bits p → p + n ≤ 650 → some_reads f bits (p + n) ≡ b → Reads f bits (from_power f bits (p + n))
down f bits p n true some finite many few within e = subst (Reads f bits) (sym (found f bits (p + n) e)) (reads-some f bits (p + n) (closest_reads f bits (p + n)) refl e (few-at f bits p n few) within)
down f bits p zero false some finite many few within e =
    let same : p + 0 ≡ p = omega arith in
    absurd (false≢true (sym (subst (λ (x : ℕ). some_reads f bits x ≡ false) same e) ∙ ap (λ (b : Bool). b || next_reads f bits p) (reads-closest f bits p some finite many)))
down f bits p (suc n) false some finite many few within e =
    let next : p + suc n ≡ suc (p + n) = omega arith in
    subst (Reads f bits) (sym (ap (from_power f bits) next ∙ step f bits (p + n) (subst (λ (x : ℕ). some_reads f bits x ≡ false) next e)))
    (down f bits p n (some_reads f bits (p + n)) some finite many few (omega arith) refl)

-- the power at which it has 17 digits
many-at-zero : (f : Format) (bits : ℕ) → 0 < bits → Many f bits 0
many-at-zero f bits h =
    let some : 1 ≤ numerator f bits = mul-pos (significand-some f bits h) (power-pos 2 _ (omega arith)) in
    le_trans (least f) (mul-le-mul_right (10 ^ 342) some)
  where
    least : (f : Format) → 10 ^ 16 * (2 ^ low f * 10 ^ 0) ≤ 1 * 10 ^ 342
    least binary32 = lit≤ tt
    least binary64 = lit≤ tt

few-at-top : (f : Format) (bits : ℕ) → bits < ones f * hid f → Few f bits 650
few-at-top f bits h = rw (mul-one (numerator f bits)) (lt_of_lt_of_le (numerator-lt f bits h) (most f))
  where
    most : (f : Format) → 2 ^ prec f * 2 ^ (ones f - 2) ≤ 10 ^ 17 * (2 ^ low f * 10 ^ 308)
    most binary32 = lit≤ tt
    most binary64 = lit≤ tt

abbrev Place : Format → ℕ → ℕ → Type 0
Place f bits n = (p : ℕ) × (p ≤ n) × Many f bits p × Few f bits p

place : (f : Format) (bits n : ℕ) → Many f bits 0 → Few f bits n → Place f bits n
place f bits zero many few = (0, omega arith, many, few)
place f bits (suc n) many few = elim (cases_lt (numerator f bits * tens_down n) (10 ^ 17 * (2 ^ low f * tens_up n))) [
  | inl l ↦ let found = place f bits n many l in (found.0, omega (arith, found.1), found.2, found.3)
  | inr g ↦ (suc n, omega arith, more f bits n g, few)
]
  where
    more : (f : Format) (bits n : ℕ) → 10 ^ 17 * (2 ^ low f * tens_up n) ≤ numerator f bits * tens_down n → Many f bits (suc n)
    more f bits n g =
        let e : n + 1 ≡ suc n = omega arith in
        let turn = cross (numerator f bits) (2 ^ low f) n 1 in
        subst (Many f bits) e (scale (numerator f bits * tens_down (n + 1)) (2 ^ low f * tens_up (n + 1)) (numerator f bits * tens_down n) (2 ^ low f * tens_up n) turn g (unit f n))
      where
        scale : (x y a b : ℕ) → x * (b * 10 ^ 1) ≡ a * y → 10 ^ 17 * b ≤ a → 0 < b → 10 ^ 16 * y ≤ x
        scale x y a b e l B = le_of_mul-le-mul_right {k = 10 * b} (omega (arith, e, mul-le-mul_right y l)) (omega (arith, B))

pub shortest-reads : (f : Format) (bits : ℕ) → 0 < bits → bits < ones f * hid f → Reads f bits (shortest_decimal f bits)
shortest-reads f bits some finite =
    let here = place f bits 650 (many-at-zero f bits some) (few-at-top f bits finite) in
    let p = here.0 in
    let e : p + (650 - p) ≡ 650 = omega (arith, here.1) in
    subst (λ (x : ℕ). Reads f bits (from_power f bits x)) e (down f bits p (650 - p) (some_reads f bits (p + (650 - p))) some finite here.2 here.3 (omega (arith, e)) refl)

pub reads-as-number : (f : Format) (bits digits p : ℕ) → reads_as f bits digits p ≡ true → round f false (digits * tens_up p) (tens_down p) ≡ of_bits f bits
unfolding reads_as
reads-as-number f bits digits p e =
    let v = round f false (digits * tens_up p) (tens_down p) in
    sym (of_bits-to_bits f v (round-fits f false _ _)) ∙ ap (of_bits f) (eqb-true _ _ e)
