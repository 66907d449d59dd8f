-- A text that reads as the single of a half's value reads as the half.
use Rattle.std.specs.Prelude.{if◌then◌else◌, slice_index, ◌==◌, codes}
use Rattle.std.proofs.Common.{◌≡◌, T, ℕ, zero, suc, ◌+◌, ◌-◌, ◌*◌, ◌/◌, ◌%◌, ◌^◌, ◌<◌, ◌≤◌, Bool, true, false, not, cond, nat_lt, List, length, drop, Option, Some, None, inl, inr, refl, sym, ap, subst, ◌∙◌, arith, mul-pos, pow-add, mul-le-mul_right, mul-le-mul_left}
use Rattle.std.proofs.lemmas.Bool.{cases_lt, false≢true, lt-ltb, le-ltb, ne_eqb}
use Rattle.std.proofs.lemmas.Option.{same_Some}
use native.Mathlib.Nat.{eq-zero-or-pos, div-div-eq-div-mul, div-lt_iff_lt-mul, le-div_iff_mul-le, lt_of_not-le, not-le_of_lt, lt_of_lt_of_le, le_trans, pow-suc, mod-lt, div-add-mod', eq_of_mul-eq-mul_right, mul_assoc}
use lib.Pow.{pow_mono, pow_pos}
use lib.Ieee.{Float, nan, inf, fin, binary32, size, odd, units, round, up, down}
use lib.Ieee.Digits.{size-lt, size-le, size_reaches}
use lib.Ieee.Exact.{HasValue, odd_sign}
use lib.Ieee.Fits.{round_is, down_pos}
use lib.Ieee.Nearest.{closest, nearest-ge}
use lib.Ieee.Order.{drop as cut, kept}
use lib.Ieee.Scale.{finite}
use Rattle.std.specs.Option.{option_map, option_and_then}
use Rattle.fast_float.specs.Parse.{parse_float, read_float, read_word, begins_with, sign_len}
use Rattle.fast_float.specs.Text.{digits_of, has_digits, minus, nearest, tens_up, tens_down}
use Rattle.fast_float.proofs.ExactLemmas.{ten_to_pos}
use Rattle.float_text.specs.Half.{half_of_fields, half_value}
use Rattle.json_read.specs.HalfNumbers.{dropped, half_number_bits, half_of_parts, if_in_range, nearest_half, numeral_in, spec_is_number, with_sign}
use Rattle.json_read.proofs.ClosestIntegers.{off-above, off-below, closest-above, closest-below}

-- ---- a text that reads as a finite number is a numeral

-- a word is no finite number
abbrev NotFinite : Option (Float × ℕ) → Type 0
NotFinite None = Unit {0}
NotFinite (Some r) = T (finite r.0) → ⊥

word-not-finite : (negative : Bool) (bs : List ℕ) → NotFinite (read_word negative bs)
word-not-finite negative bs = go (begins_with bs (codes "infinity")) (begins_with bs (codes "inf")) (begins_with bs (codes "nan"))
  where
    go : (a b c : Bool) → NotFinite (if a then Some (inf negative, 8) else (if b then Some (inf negative, 3) else (if c then Some (nan, 3) else None)))
    go true b c = λ t. t
    go false true c = λ t. t
    go false false true = λ t. t
    go false false false = tt

abbrev parsed : ℕ → ℕ → Option (Float × ℕ) → Option Float
parsed len n o = option_and_then (λ (r : Float × ℕ). if r.1 == len then Some r.0 else None) (option_map (λ (r : Float × ℕ). (r.0, n + r.1)) o)

-- the numeral's length and its value
record IsRead (s : List ℕ) (v : Float) : Type 0 where
  whole : spec_is_number s ≡ true
  value : nearest binary32 (slice_index s 0 == minus) (numeral_in s) ≡ v

no-word : (len n : ℕ) (o : Option (Float × ℕ)) (v : Float) → NotFinite o → T (finite v) → parsed len n o ≡ Some v → ⊥
no-word len n None v h t e = false≢true (ap told e)
  where
    told : Option Float → Bool
    told None = false
    told (Some x) = true
no-word len n (Some r) v h t e = go (n + r.1 == len) e
  where
    go : (b : Bool) → (if b then Some r.0 else None) ≡ Some v → ⊥
    go true q = h (subst (λ x. T (finite x)) (sym (same_Some _ _ q)) t)
    go false q = false≢true (ap told q)
      where
        told : Option Float → Bool
        told None = false
        told (Some x) = true

is-read : (s : List ℕ) (v : Float) → T (finite v) → parse_float binary32 s ≡ Some v → IsRead s v
unfolding read_float
is-read s v t e = go (has_digits (numeral_in s)) refl (sign_len s + (numeral_in s).len == length s) refl e
  where
    go : (a : Bool) → has_digits (numeral_in s) ≡ a → (b : Bool) → (sign_len s + (numeral_in s).len == length s) ≡ b
        → parsed (length s) (sign_len s) (if a then Some (nearest binary32 (slice_index s 0 == minus) (numeral_in s), (numeral_in s).len) else read_word (slice_index s 0 == minus) (drop (sign_len s) s)) ≡ Some v → IsRead s v
    go false p b q h = absurd (no-word (length s) (sign_len s) (read_word (slice_index s 0 == minus) (drop (sign_len s) s)) v (word-not-finite (slice_index s 0 == minus) (drop (sign_len s) s)) t h)
    go true p true q h = record { whole = rw (p, q) refl; value = same_Some _ _ (rw q at h) }
    go true p false q h = absurd (false≢true (ap told (rw q at h)))
      where
        told : Option Float → Bool
        told None = false
        told (Some x) = true

-- ---- a number near a half

-- the whole part has k digits past 11
digits-dropped : (k n den : ℕ) → 0 < den → (0 < k → 1024 * (den * 2 ^ k) ≤ n) → n < 2048 * (den * 2 ^ k) → size (n / den) - 11 ≡ k
digits-dropped k n den D lo hi =
    let joined : (j : ℕ) → 2 ^ j * (den * 2 ^ k) ≡ 2 ^ (j + k) * den = λ j. regroup (2 ^ j) (2 ^ k) den ∙ ap (λ x. x * den) (sym (pow-add 2 j k)) in
    let most : size (n / den) ≤ 11 + k = size-le (n / den) (11 + k) ((div-lt_iff_lt-mul D).1 (subst (λ x. n < x) (joined 11) hi)) in
    elim (eq-zero-or-pos k) [
      | inl z ↦ omega (arith, z, most)
      | inr K ↦
          let least : 10 + k < size (n / den) = size-gt (n / den) (10 + k) ((le-div_iff_mul-le D).1 (subst (λ x. x ≤ n) (joined 10) (lo K))) in
          omega (arith, most, least)
    ]
  where
    regroup : (a b d : ℕ) → a * (d * b) ≡ a * b * d
    regroup a b d = grind arith

    size-gt : (n j : ℕ) → 2 ^ j ≤ n → j < size n
    size-gt n j h = lt_of_not-le (λ (g : size n ≤ j). not-le_of_lt (lt_of_lt_of_le (size-lt n) (pow_mono g)) h)

closest-near : (n u q : ℕ) → 0 < u → 2 * (q * u) < 2 * n + u → 2 * n < 2 * (q * u) + u → closest n u ≡ q
closest-near n u q U lo hi = elim (cases_lt n (q * u)) [
  | inr g ↦ closest-below n u q (omega (arith, g)) (omega (arith, hi, U)) hi
  | inl l ↦ under q l lo
]
  where
    under : (q : ℕ) → n < q * u → 2 * (q * u) < 2 * n + u → closest n u ≡ q
    under zero l lo = absurd (omega (arith, l))
    under (suc p) l lo = closest-above n u p (omega (arith, lo)) (omega (arith, l)) (omega (arith, lo))

-- 2^14 times closer to a half than the next one is
abbrev IsNear : ℕ → ℕ → ℕ → Type 0
IsNear n m u = (16384 * (m * u) ≤ 16384 * n + u) × (16384 * n ≤ 16384 * (m * u) + u)

same-unit : (num den m k : ℕ) → 0 < den → m ≤ 2048 → (0 < k → 1024 * (den * 2 ^ k) ≤ num * 2 ^ 24) → num * 2 ^ 24 < 2048 * (den * 2 ^ k)
    → 2 * (m * (den * 2 ^ k)) < 2 * (num * 2 ^ 24) + den * 2 ^ k → 2 * (num * 2 ^ 24) < 2 * (m * (den * 2 ^ k)) + den * 2 ^ k → nearest_half num den ≡ k * 1024 + m
same-unit num den m k D M lo hi from to =
    let digits : dropped num den ≡ k = digits-dropped k (num * 2 ^ 24) den D lo hi in
    ap (λ j. j * 1024 + closest (num * 2 ^ 24) (den * 2 ^ j)) digits ∙ ap (λ q. k * 1024 + q) (closest-near (num * 2 ^ 24) (den * 2 ^ k) m (mul-pos D (pow_pos k)) from to)

-- the half of m * 2^k units, of which m has 11 digits, or fewer if k is 0
near-half : (num den m k : ℕ) → 0 < den → m < 2048 → (0 < k → 1024 ≤ m) → IsNear (num * 2 ^ 24) m (den * 2 ^ k) → nearest_half num den ≡ k * 1024 + m
near-half num den m zero D M N (lo, hi) =
    let U : 0 < den * 2 ^ 0 = mul-pos D (pow_pos 0) in
    same-unit num den m 0 D (omega (arith, M)) (λ z. absurd (omega (arith, z))) (upper (m * (den * 2 ^ 0)) (num * 2 ^ 24) (den * 2 ^ 0) m M U hi refl) (omega (arith, lo, U)) (omega (arith, hi, U))
  where
    upper : (mu n u m : ℕ) → m < 2048 → 0 < u → 16384 * n ≤ 16384 * mu + u → mu ≡ m * u → n < 2048 * u
    upper mu n u m M U hi e = let next : m + 1 ≤ 2048 = omega (arith, M) in omega (arith, hi, U, e, mul-le-mul_right u next)
near-half num den m (suc j) D M N (lo, hi) =
    let n = num * 2 ^ 24 in
    let u = den * 2 ^ suc j in
    let U : 0 < u = mul-pos D (pow_pos (suc j)) in
    let below = upper (m * u) n u m M U hi refl in
    elim (cases_lt n (1024 * u)) [
      | inr g ↦ same-unit num den m (suc j) D (omega (arith, M)) (λ _. g) below (omega (arith, lo, U)) (omega (arith, hi, U))
      | inl l ↦ (
          let one : m ≡ 1024 = only (m * u) n u m (N (omega arith)) lo l refl U in
          let v = den * 2 ^ j in
          let V : 0 < v = mul-pos D (pow_pos j) in
          let twice : u ≡ 2 * v = omega (arith, ap (λ x. den * x) (pow-suc 2 j)) in
          let product : m * u ≡ 2048 * v = omega (arith, twice, ap (λ x. x * u) one) in
          same-unit num den 2048 j D (omega arith) (λ _. omega (arith, lo, twice, product, V)) (omega (arith, l, twice)) (omega (arith, lo, twice, product, V)) (omega (arith, l, twice, V)) ∙ omega (arith, one)
          )
    ]
  where
    upper : (mu n u m : ℕ) → m < 2048 → 0 < u → 16384 * n ≤ 16384 * mu + u → mu ≡ m * u → n < 2048 * u
    upper mu n u m M U hi e = let next : m + 1 ≤ 2048 = omega (arith, M) in omega (arith, hi, U, e, mul-le-mul_right u next)

    only : (mu n u m : ℕ) → 1024 ≤ m → 16384 * mu ≤ 16384 * n + u → n < 1024 * u → mu ≡ m * u → 0 < u → m ≡ 1024
    only mu n u m N lo l e U = elim (cases_lt 1024 m) [
      | inr g ↦ omega (arith, N, g)
      | inl g ↦ (let next : 1025 ≤ m = omega (arith, g) in absurd (omega (arith, lo, l, e, U, mul-le-mul_right u next)))
    ]

-- ---- the single of a half's value is near the number

-- two ways to write one number have the same sign, and the same size
same-value : (v : Float) (s t : Bool) (a b c d : ℕ) → HasValue v s a c → HasValue v t b d → 0 < d → (s ≡ t) × (a * d ≡ b * c)
same-value nan s t a b c d p q D = absurd p
same-value (inf r) s t a b c d p q D = absurd p
same-value (fin r m e) s t a b c d p q D =
    (sym p.0 ∙ q.0, eq_of_mul-eq-mul_right (down e) (down_pos e) (a * d) (b * c) (size-is (m * up e) a b c d (down e) p.1 q.1))
  where
    size-is : (x a b c d y : ℕ) → x * c ≡ a * y → x * d ≡ b * y → a * d * y ≡ b * c * y
    size-is x a b c d y p q =
        let one : a * d * y ≡ x * c * d = (let e : a * d * y ≡ a * y * d = grind arith in e ∙ ap (λ z. z * d) (sym p)) in
        let two : b * c * y ≡ x * d * c = (let e : b * c * y ≡ b * y * c = grind arith in e ∙ ap (λ z. z * c) (sym q)) in
        let three : x * c * d ≡ x * d * c = grind arith in
        one ∙ three ∙ sym two

units-value : (s : Bool) (q k : ℕ) → T (finite (units binary32 s q k)) → HasValue (units binary32 s q k) s (q * 2 ^ k) (2 ^ 149)
unfolding units
units-value s q k = go (lib.Dec.ltb (q * 2 ^ k) (2 ^ 277))
  where
    go : (b : Bool) → T (finite (cond b (odd 25 s q k 149) (inf s))) → HasValue (cond b (odd 25 s q k 149) (inf s)) s (q * 2 ^ k) (2 ^ 149)
    go true t = odd_sign 25 s q k 149
    go false t = absurd t

odd-finite : (d : ℕ) (s : Bool) (q k l : ℕ) → T (finite (odd d s q k l))
unfolding odd
odd-finite d s zero k l = tt
odd-finite d s (suc q) k l = tt

-- a rounded number is off by half of its last place
near-rounded : (n den : ℕ) → 0 < den
    → (2 * (kept 24 n den * 2 ^ cut 24 n den * den) ≤ 2 * n + den * 2 ^ cut 24 n den) × (2 * n ≤ 2 * (kept 24 n den * 2 ^ cut 24 n den * den) + den * 2 ^ cut 24 n den)
near-rounded n den D =
    let k = cut 24 n den in
    let u = den * 2 ^ k in
    let U : 0 < u = mul-pos D (pow_pos k) in
    let from : n / u * u ≤ n = omega (arith, div-add-mod' n u) in
    let below : n < n / u * u + u = omega (arith, div-add-mod' n u, mod-lt n U) in
    let turn : kept 24 n den * 2 ^ k * den ≡ closest n u * u = grind arith in
    (omega (arith, off-below n u (n / u) from below, turn), omega (arith, off-above n u (n / u) from below, turn))

pow-split : (x k : ℕ) → 2 ^ (k + 23) ≤ x → 8388608 ≤ x / 2 ^ k
pow-split x k h = (le-div_iff_mul-le (pow_pos k)).1 (subst (λ y. y ≤ x) (pow-add 2 k 23 ∙ turn (2 ^ k)) h)
  where
    turn : (y : ℕ) → y * 2 ^ 23 ≡ 8388608 * y
    turn y = omega arith

kept-large : (n den : ℕ) → 0 < cut 24 n den → 8388608 ≤ kept 24 n den
kept-large n den K =
    let k = cut 24 n den in
    let top : 2 ^ (k + 23) ≤ n / den = size_reaches (n / den) (k + 23) (omega (arith, K)) in
    le_trans (subst (λ x. 8388608 ≤ x) (div-div-eq-div-mul n den (2 ^ k)) (pow-split (n / den) k top)) (nearest-ge _ _)

-- the last place of the single is far below that of the half
last-place : (n den m e : ℕ) → m < 2048 → kept 24 n den * 2 ^ cut 24 n den ≡ m * 2 ^ (e + 125) → cut 24 n den ≤ e + 112
last-place n den m e M g = elim (eq-zero-or-pos (cut 24 n den)) [
  | inl z ↦ omega (arith, z)
  | inr K ↦ elim (cases_lt (e + 112) (cut 24 n den)) [
    | inr l ↦ l
    | inl l ↦ absurd (far (kept 24 n den) (2 ^ cut 24 n den) m (2 ^ (e + 113)) (kept-large n den K) (pow_mono (omega (arith, l))) M (g ∙ ap (λ x. m * x) ((let s : e + 125 ≡ e + 113 + 12 = omega arith in ap (λ x. 2 ^ x) s) ∙ pow-add 2 (e + 113) 12)) (pow_pos (e + 113)))
  ]
]
  where
    far : (a x m y : ℕ) → 8388608 ≤ a → y ≤ x → m < 2048 → a * x ≡ m * (y * 2 ^ 12) → 0 < y → ⊥
    far a x m y h l M e p =
        let one : 8388608 * y ≤ a * x = le_trans (mul-le-mul_left 8388608 l) (mul-le-mul_right x h) in
        let two : m * (y * 4096) ≤ 2047 * (y * 4096) = mul-le-mul_right (y * 4096) (omega (arith, M)) in
        omega (arith, one, two, e, p)

near-from-single : (num den m e : ℕ) → 0 < den → m < 2048 → kept 24 (num * 2 ^ 149) den * 2 ^ cut 24 (num * 2 ^ 149) den ≡ m * 2 ^ (e + 125) → IsNear (num * 2 ^ 24) m (den * 2 ^ e)
near-from-single num den m e D M g =
    let n = num * 2 ^ 149 in
    let k = cut 24 n den in
    let near = near-rounded n den D in
    let place : den * 2 ^ k ≤ den * 2 ^ (e + 112) = mul-le-mul_left den (pow_mono (last-place n den m e M g)) in
    let power : 2 ^ (e + 112) ≡ 2 ^ e * 2 ^ 112 = pow-add 2 e 112 in
    let more : 2 ^ (e + 125) ≡ 2 ^ e * 2 ^ 125 = pow-add 2 e 125 in
    let value : kept 24 n den * 2 ^ k * den ≡ m * (den * 2 ^ e) * 2 ^ 125 = ap (λ x. x * den) (g ∙ ap (λ x. m * x) more) ∙ turn m (2 ^ e) (2 ^ 125) den in
    let unit : den * 2 ^ (e + 112) ≡ den * 2 ^ e * 2 ^ 112 = ap (λ x. den * x) power ∙ sym (mul_assoc den (2 ^ e) (2 ^ 112)) in
    (omega (arith, near.0, value, place, unit), omega (arith, near.1, value, place, unit))
  where
    turn : (m x y d : ℕ) → m * (x * y) * d ≡ m * (d * x) * y
    turn m x y d = grind arith

-- ---- the bits of a finite half

abbrev half_digits : ℕ → ℕ → ℕ
half_digits zero t = t
half_digits (suc y) t = 1024 + t

fields-are : (negative : Bool) (x t : ℕ) → x < 31 → half_of_fields negative x t ≡ odd 11 negative (half_digits x t) (x - 1) 24
fields-are negative zero t h = refl
fields-are negative (suc y) t h = rw (ne_eqb (suc y) 31 (λ e. omega (arith, e, h)), ne_eqb (suc y) 0 (λ e. omega (arith, e))) refl

-- the bits without a sign, from the digits and the exponent
size-bits : (x t : ℕ) → t < 1024 → (half_digits x t < 2048) × (0 < x - 1 → 1024 ≤ half_digits x t) × ((x - 1) * 1024 + half_digits x t ≡ x * 1024 + t)
size-bits zero t h = (omega (arith, h), (λ z. absurd (omega (arith, z))), refl)
size-bits (suc y) t h = (omega (arith, h), (λ z. omega arith), omega arith)

signed-bits : (bits : ℕ) → bits < 65536 → with_sign (not (nat_lt bits 32768)) (bits % 32768) ≡ bits
signed-bits bits h = elim (cases_lt bits 32768) [
  | inl l ↦ rw (lt-ltb _ _ l) (omega (arith, l))
  | inr g ↦ rw (le-ltb _ _ g) (omega (arith, g, h))
]

-- the number of a text is that of the single, rounded
value-is : (s : Bool) (num den m e : ℕ) (negative : Bool) → 0 < den → round binary32 s num den ≡ odd 11 negative m e 24 → (s ≡ negative) × (kept 24 (num * 2 ^ 149) den * 2 ^ cut 24 (num * 2 ^ 149) den ≡ m * 2 ^ (e + 125))
value-is s num den m e negative D same =
    let n = num * 2 ^ 149 in
    let v = odd 11 negative m e 24 in
    let u : units binary32 s (kept 24 n den) (cut 24 n den) ≡ v = sym (round_is binary32 s num den) ∙ same in
    let left : HasValue v s (kept 24 n den * 2 ^ cut 24 n den) (2 ^ 149) =
    subst (λ x. HasValue x s (kept 24 n den * 2 ^ cut 24 n den) (2 ^ 149)) u (units-value s (kept 24 n den) (cut 24 n den) (subst (λ x. T (finite x)) (sym u) (odd-finite 11 negative m e 24))) in
    let both = same-value v s negative (kept 24 n den * 2 ^ cut 24 n den) (m * 2 ^ e) (2 ^ 149) (2 ^ 24) left (odd_sign 11 negative m e 24) (pow_pos 24) in
    let more : m * 2 ^ (e + 125) ≡ m * 2 ^ e * 2 ^ 125 = ap (λ x. m * x) (pow-add 2 e 125) ∙ sym (mul_assoc m (2 ^ e) (2 ^ 125)) in
    (both.0, omega (arith, both.1, more))

pub half-finite : (bits : ℕ) → bits % 32768 < 31744 → T (finite (half_value bits))
half-finite bits range =
    let negative = not (nat_lt bits 32768) in
    let x = bits % 32768 / 1024 in
    let m = half_digits x (bits % 1024) in
    subst (λ v. T (finite v)) (sym (fields-are negative x (bits % 1024) (omega (arith, range)))) (odd-finite 11 negative m (x - 1) 24)

pub half-reads : (bits : ℕ) (s : List ℕ) → bits < 65536 → bits % 32768 < 31744 → parse_float binary32 s ≡ Some (half_value bits) → half_number_bits s ≡ Some bits
half-reads bits s h range e =
    let negative = not (nat_lt bits 32768) in
    let x = bits % 32768 / 1024 in
    let t = bits % 1024 in
    let m = half_digits x t in
    let fields = fields-are negative x t (omega (arith, range)) in
    let sizes = size-bits x t (omega arith) in
    let p = numeral_in s in
    let num = digits_of p * 10 ^ tens_up p in
    let den = 10 ^ tens_down p in
    let D = ten_to_pos (tens_down p) in
    let read = is-read s (odd 11 negative m (x - 1) 24) (odd-finite 11 negative m (x - 1) 24) (e ∙ ap Some fields) in
    let value = value-is (slice_index s 0 == minus) num den m (x - 1) negative D read.value in
    let near = near-half num den m (x - 1) D sizes.0 sizes.1 (near-from-single num den m (x - 1) D sizes.0 value.1) in
    let together : x * 1024 + t ≡ bits % 32768 = omega arith in
    let size : nearest_half num den ≡ bits % 32768 = near ∙ sizes.2 ∙ together in
    let found : half_of_parts p ≡ Some (bits % 32768) = ap if_in_range size ∙ rw (lt-ltb _ _ range) refl in
    rw read.whole
    (ap (λ o. option_map (with_sign (slice_index s 0 == minus)) o) found ∙ ap (λ b. Some (with_sign b (bits % 32768))) value.0 ∙ ap Some (signed-bits bits h))
