-- A number written with an odd significand is the same whether it is a half's or a single's.
use Rattle.std.proofs.Common.{◌≡◌, ℕ, zero, suc, ◌+◌, ◌-◌, ◌*◌, ◌/◌, ◌%◌, ◌^◌, ◌<◌, ◌≤◌, Bool, true, false, nat_lt, not, cond, inl, inr, refl, sym, subst, ap, ◌∙◌, arith, Some, lt_of_lt_of_le}
use Rattle.std.proofs.lemmas.Bool.{cases_lt}
use native.Mathlib.Nat.{add-zero, mul_assoc, mul-le-mul_right, mul-lt-mul_of_pos_right, mul-one, mul_left_comm, pow-succ', div-div-eq-div-mul}
use lib.Dec.{T, leb, le→leb, not_T, eqb, eqb→eq, ltb→lt, nltb→le}
use lib.Arith.{lt→nleb}
use lib.IntN.{ℤ, pos, negsuc}
use lib.Count.{count_leading_zeros, count_trailing_zeros, under}
use lib.Pow.{pow-add, pow_mono, pow_pos, shl_lt}
use Rattle.std.proofs.lemmas.Nat.{leading_top}
use lib.Ieee.{nan, inf, fin, binary32, minus, odd, is_nan, of_fields, of_bits, to_bits, fits}
use lib.Ieee.Bits.{cond_no, to_bits-of_bits, to_bits-lt, of_bits-to_bits}
use Rattle.fast_float.specs.Parse.{parse_float}
use lib.Ieee.Fits.{cond-fits, inf-fits, nan-fits, odd-fits}
use Rattle.float_text.specs.Half.{half_of_fields, half_text, half_value, single_of_half}
use Rattle.float_text.proofs.TextReads.{reads-back}

odd_suc : (d : ℕ) (s : Bool) (q k l : ℕ) → 0 < q → odd d s q k l ≡ fin s (q / 2 ^ count_trailing_zeros d q) (minus (k + count_trailing_zeros d q) l)
unfolding odd
odd_suc d s (suc q) k l h = refl
odd_suc d s zero k l h = absurd (omega arith)

odd_zero : (d : ℕ) (s : Bool) (k l : ℕ) → odd d s 0 k l ≡ fin s 0 (pos 0)
unfolding odd
odd_zero d s k l = refl

same : (s : Bool) (l : ℕ) {d d' q q' k k' : ℕ} → d ≡ d' → q ≡ q' → k ≡ k' → odd d s q k l ≡ odd d' s q' k' l
same s l a b c = λ i. odd (a i) s (b i) (c i) l

trailing_twice : (d q : ℕ) → count_trailing_zeros (suc d) (2 * q) ≡ suc (count_trailing_zeros d q)
unfolding count_trailing_zeros
trailing_twice d q =
    let even : 2 * q % 2 ≡ 0 = omega arith in
    let half : 2 * q / 2 ≡ q = omega arith in
    λ i. under (even i) (count_trailing_zeros d (half i))

twice : (d : ℕ) (s : Bool) (q k l : ℕ) → odd (suc d) s (2 * q) k l ≡ odd d s q (suc k) l
twice d s zero k l = let e : 2 * 0 ≡ 0 = refl in ap (λ x. odd (suc d) s x k l) e ∙ odd_zero (suc d) s k l ∙ sym (odd_zero d s (suc k) l)
twice d s (suc q) k l =
    let t = count_trailing_zeros d (suc q) in
    let z = trailing_twice d (suc q) in
    let power : 2 ^ suc t ≡ 2 * 2 ^ t = pow-succ' 2 t in
    let half : 2 * suc q / 2 ≡ suc q = omega arith in
    let place : k + suc t ≡ suc k + t = omega arith in
    odd_suc (suc d) s (2 * suc q) k l (omega arith)
    ∙ ap (λ x. fin s (2 * suc q / 2 ^ x) (minus (k + x) l)) z
    ∙ ap (λ x. fin s (2 * suc q / x) (minus (k + suc t) l)) power
    ∙ ap (λ x. fin s x (minus (k + suc t) l)) (sym (div-div-eq-div-mul (2 * suc q) 2 (2 ^ t)) ∙ ap (λ x. x / 2 ^ t) half)
    ∙ ap (λ x. fin s (suc q / 2 ^ t) (minus x l)) place
    ∙ sym (odd_suc d s (suc q) (suc k) l (omega arith))

-- zeros after the digits are places of the exponent
shifted : (n d : ℕ) (s : Bool) (q k l : ℕ) → odd (d + n) s (q * 2 ^ n) k l ≡ odd d s q (k + n) l
shifted zero d s q k l = same s l (add-zero d) (mul-one q) (sym (add-zero k))
shifted (suc n) d s q k l =
    let digits : d + suc n ≡ suc (d + n) = omega arith in
    let place : suc k + n ≡ k + suc n = omega arith in
    same s l digits (ap (λ x. q * x) (pow-succ' 2 n) ∙ mul_left_comm q 2 (2 ^ n)) refl
    ∙ twice (d + n) s (q * 2 ^ n) k l
    ∙ shifted n d s q (suc k) l
    ∙ same s l refl refl place

minus_both : (a b c : ℕ) → minus (a + c) (b + c) ≡ minus a b
minus_both a b c = elim (cases_lt a b) [
  | inl l ↦
      let e : b + c - suc (a + c) ≡ b - suc a = omega arith in
      cond_no (leb (b + c) (a + c)) _ _ (lt→nleb _ _ (omega (arith, l))) ∙ ap negsuc e ∙ sym (cond_no (leb b a) _ _ (lt→nleb _ _ l))
  | inr m ↦
      let e : a + c - (b + c) ≡ a - b = omega arith in
      yes (leb (b + c) (a + c)) _ _ (le→leb _ _ (omega (arith, m))) ∙ ap pos e ∙ sym (yes (leb b a) _ _ (le→leb _ _ m))
]
  where
    yes : (b : Bool) (x y : ℤ) → T b → cond b x y ≡ x
    yes true x y t = refl
    yes false x y t = absurd t

-- units that are smaller by 2 ^ c
other_units : (d : ℕ) (s : Bool) (q k l c : ℕ) → odd d s q (k + c) (l + c) ≡ odd d s q k l
other_units d s zero k l c = odd_zero d s (k + c) (l + c) ∙ sym (odd_zero d s k l)
other_units d s (suc q) k l c =
    let t = count_trailing_zeros d (suc q) in
    let e : k + c + t ≡ k + t + c = omega arith in
    odd_suc d s (suc q) (k + c) (l + c) (omega arith)
    ∙ ap (fin s (suc q / 2 ^ t)) (ap (λ x. minus x (l + c)) e ∙ minus_both (k + t) l c)
    ∙ sym (odd_suc d s (suc q) k l (omega arith))

trailing_wider : (d c q : ℕ) → 0 < q → q < 2 ^ d → count_trailing_zeros (d + c) q ≡ count_trailing_zeros d q
unfolding count_trailing_zeros
trailing_wider zero c q some h = absurd (omega (arith, h))
trailing_wider (suc d) c q some h =
    let p = pow-succ' 2 d in
    let e : suc d + c ≡ suc (d + c) = omega arith in
    ap (λ x. count_trailing_zeros x q) e ∙ go (q % 2) refl (λ even. trailing_wider d c (q / 2) (omega (arith, even)) (omega (arith, p, h)))
  where
    go : (r : ℕ) → q % 2 ≡ r → (q % 2 ≡ 0 → count_trailing_zeros (d + c) (q / 2) ≡ count_trailing_zeros d (q / 2))
        → under (q % 2) (count_trailing_zeros (d + c) (q / 2)) ≡ under (q % 2) (count_trailing_zeros d (q / 2))
    go zero e rest = ap (under (q % 2)) (rest e)
    go (suc r) e rest = ap (λ x. under x (count_trailing_zeros (d + c) (q / 2))) e ∙ sym (ap (λ x. under x (count_trailing_zeros d (q / 2))) e)

wider : (d c : ℕ) (s : Bool) (q k l : ℕ) → 0 < q → q < 2 ^ d → odd (d + c) s q k l ≡ odd d s q k l
wider d c s q k l some h =
    odd_suc (d + c) s q k l some
    ∙ ap (λ t. fin s (q / 2 ^ t) (minus (k + t) l)) (trailing_wider d c q some h)
    ∙ sym (odd_suc d s q k l some)

is_number : (d : ℕ) (s : Bool) (q k l : ℕ) → is_nan (odd d s q k l) ≡ false
unfolding odd is_nan
is_number d s zero k l = refl
is_number d s (suc q) k l = refl

abbrev pub sign_of : Bool → ℕ
sign_of s = cond s 2147483648 0

-- a single by its fields
by_fields : (x t n : ℕ) → x < 256 → t < 8388608 → n ≡ x * 8388608 + t → of_bits binary32 n ≡ of_fields binary32 false x t
unfolding of_bits
by_fields x t n a b e =
    let sign : leb 2147483648 n ≡ false = is_false (leb 2147483648 n) (lt→nleb _ _ (omega (arith, e, a, b))) in
    let exponent : n % 2147483648 / 8388608 ≡ x = omega (arith, e, a, b) in
    let digits : n % 8388608 ≡ t = omega (arith, e, b) in
    λ i. of_fields binary32 (sign i) (exponent i) (digits i)
  where
    is_false : (c : Bool) → T (not c) → c ≡ false
    is_false false h = refl
    is_false true h = absurd h

normal_fields : (x t : ℕ) → suc x < 255 → of_fields binary32 false (suc x) t ≡ odd 24 false (8388608 + t) x 149
unfolding of_fields
normal_fields x t h = cond_no (eqb (suc x) 255) _ _ (not_T (eqb (suc x) 255) (λ e. absurd (omega (arith, h, eqb→eq _ _ e))))

-- the bits of a normal number
bits_of : (d q k l x t n : ℕ) → suc x < 255 → t < 8388608 → n ≡ suc x * 8388608 + t → odd 24 false (8388608 + t) x 149 ≡ odd d false q k l → n ≡ to_bits binary32 (odd d false q k l)
bits_of d q k l x t n a b e v =
    let value : of_bits binary32 n ≡ odd d false q k l = by_fields (suc x) t n (omega (arith, a)) b e ∙ normal_fields x t a ∙ v in
    sym (to_bits-of_bits binary32 n (omega (arith, e, a, b)) (subst (λ y. T (not y)) (sym (is_number d false q k l) ∙ sym (ap is_nan value)) tt)) ∙ ap (to_bits binary32) value

normal : (y t n : ℕ) → y < 30 → t < 1024 → n ≡ (y + 113) * 8388608 + t * 8192 → n ≡ to_bits binary32 (odd 11 false (1024 + t) y 24)
normal y t n a b e =
    let field : (y + 113) * 8388608 + t * 8192 ≡ suc (y + 112) * 8388608 + t * 8192 = omega arith in
    let digits : 8388608 + t * 8192 ≡ (1024 + t) * 8192 = omega arith in
    let place : y + 112 + 13 ≡ y + 125 = omega arith in
    bits_of 11 (1024 + t) y 24 (y + 112) (t * 8192) n (omega (arith, a)) (omega (arith, b)) (e ∙ field)
    (same false 149 refl digits refl ∙ shifted 13 11 false (1024 + t) (y + 112) 149 ∙ same false 149 refl refl place ∙ other_units 11 false (1024 + t) y 24 125)

pub normal_bits : (x t n : ℕ) → 0 < x → x < 31 → t < 1024 → n ≡ (x + 112) * 8388608 + t * 8192 → n ≡ to_bits binary32 (half_of_fields false x t)
normal_bits zero t n some a b e = absurd (omega (arith, some))
normal_bits (suc y) t n some a b e =
    let less : suc y - 1 ≡ y = omega arith in
    normal y t n (omega (arith, a)) b (omega (arith, e))
    ∙ ap (to_bits binary32) (sym (
    cond_no (eqb (suc y) 31) _ _ (not_T (eqb (suc y) 31) (λ q. absurd (omega (arith, a, eqb→eq _ _ q))))
    ∙ cond_no (eqb (suc y) 0) _ _ (not_T (eqb (suc y) 0) (λ q. absurd (omega (arith, eqb→eq _ _ q))))
    ∙ ap (λ x. odd 11 false (1024 + t) x 24) less))

-- `shift` zeros bring the leading digit to the place above the 23 digits
abbrev pub Moves : ℕ → ℕ → Type 0
Moves q shift = (d : ℕ) × (q < 2 ^ d) × (d + shift ≡ 24) × (14 ≤ shift) × (8388608 ≤ q * 2 ^ shift) × (q * 2 ^ shift < 16777216)

pub subnormal_bits : (q shift n : ℕ) → 0 < q → Moves q shift → n ≡ (125 - shift) * 8388608 + q * 2 ^ shift → n ≡ to_bits binary32 (half_of_fields false 0 q)
subnormal_bits q shift n some (d, h, total, least, from, below) e =
    let c = 11 - d in
    let all : d + c ≡ 11 = omega (arith, total, least) in
    let digits : 8388608 + (q * 2 ^ shift - 8388608) ≡ q * 2 ^ shift = omega (arith, from) in
    let place : 125 - shift + shift ≡ 125 = omega (arith, total) in
    let field : (125 - shift) * 8388608 + q * 2 ^ shift ≡ suc (125 - shift) * 8388608 + (q * 2 ^ shift - 8388608) = omega (arith, from) in
    bits_of 11 q 0 24 (125 - shift) (q * 2 ^ shift - 8388608) n (omega (arith, least)) (omega (arith, below)) (e ∙ field)
    (same false 149 (sym total) digits refl
    ∙ shifted shift d false q (125 - shift) 149
    ∙ same false 149 refl refl place
    ∙ other_units d false q 0 24 125
    ∙ sym (wider d c false q 0 24 some h)
    ∙ ap (λ x. odd x false q 0 24) all)

pub zeros_before : (q : ℕ) → 0 < q → q < 1024 → (8 ≤ count_leading_zeros 32 q) × Moves q (count_leading_zeros 32 q - 8)
zeros_before q some h =
    let top = leading_top 32 q some (omega (arith, h)) in
    let j = top.0 in
    let few : j < 10 = small j top.2 in
    let shift = count_leading_zeros 32 q - 8 in
    let places : j + shift ≡ 23 = omega (arith, top.1, few) in
    let power : 2 ^ j * 2 ^ shift ≡ 8388608 = sym (pow-add 2 j shift) ∙ ap (λ x. 2 ^ x) places in
    let next : 2 ^ suc j ≡ 2 * 2 ^ j = pow-succ' 2 j in (
      omega (arith, top.1, few),
      (
        suc j,
        top.3,
        omega (arith, places),
        omega (arith, places, few),
        subst (λ x. x ≤ q * 2 ^ shift) power (mul-le-mul_right (2 ^ shift) top.2),
        subst (λ x. q * 2 ^ shift < x) (double (2 ^ j) (2 ^ shift) next power) (mul-lt-mul_of_pos_right top.3 (pow_pos shift)),
      ),
    )
  where
    small : (j : ℕ) → 2 ^ j ≤ q → j < 10
    small j l = elim (cases_lt j 10) [
      | inl k ↦ k
      | inr m ↦ absurd (omega (arith, h, l, pow_mono m))
    ]

    double : (a b : ℕ) {c : ℕ} → c ≡ 2 * a → a * b ≡ 8388608 → c * b ≡ 16777216
    double a b n e = ap (λ x. x * b) n ∙ mul_assoc 2 a b ∙ ap (λ x. 2 * x) e

-- a sign is the highest bit
pub negative : (d q k l : ℕ) → to_bits binary32 (odd d true q k l) ≡ 2147483648 + to_bits binary32 (odd d false q k l)
unfolding odd to_bits
negative d zero k l = refl
negative d (suc q) k l = first _ _ _
  where
    first : (a b c : ℕ) → a + b + c ≡ a + (0 + b + c)
    first a b c = omega arith

pub signed : (s : Bool) (x t : ℕ) → x < 31 → sign_of s + to_bits binary32 (half_of_fields false x t) ≡ to_bits binary32 (half_of_fields s x t)
signed false x t h = omega arith
signed true zero t h = sym (negative 11 t 0 24)
signed true (suc y) t h = ap (λ v. 2147483648 + to_bits binary32 v) (fields false) ∙ sym (negative 11 (1024 + t) (suc y - 1) 24) ∙ ap (to_bits binary32) (sym (fields true))
  where
    fields : (s : Bool) → half_of_fields s (suc y) t ≡ odd 11 s (1024 + t) (suc y - 1) 24
    fields s =
        cond_no (eqb (suc y) 31) _ _ (not_T (eqb (suc y) 31) (λ q. absurd (omega (arith, h, eqb→eq _ _ q))))
        ∙ cond_no (eqb (suc y) 0) _ _ (not_T (eqb (suc y) 0) (λ q. absurd (omega (arith, eqb→eq _ _ q))))

pub sign_bit : (bits : ℕ) → bits < 65536 → bits / 32768 * 2147483648 % 4294967296 ≡ sign_of (not (nat_lt bits 32768))
sign_bit bits h = go (nat_lt bits 32768) refl
  where
    go : (b : Bool) → nat_lt bits 32768 ≡ b → bits / 32768 * 2147483648 % 4294967296 ≡ sign_of (not b)
    go true e = let l = ltb→lt bits 32768 (subst T (sym e) tt) in omega (arith, l)
    go false e = let m = nltb→le bits 32768 (subst (λ y. T (not y)) (sym e) tt) in omega (arith, m, h)

infinity : (s : Bool) → sign_of s + 2139095040 ≡ to_bits binary32 (inf s)
unfolding to_bits
infinity true = refl
infinity false = refl

pub infinity_bits : (s : Bool) (x t : ℕ) → x ≡ 31 → t ≡ 0 → sign_of s + 2139095040 ≡ to_bits binary32 (half_of_fields s x t)
infinity_bits s x t a b = infinity s ∙ λ i. to_bits binary32 (half_of_fields s (sym a i) (sym b i))

one_nan : 2143289344 ≡ to_bits binary32 nan
unfolding to_bits
one_nan = refl

pub nan_bits : (s : Bool) (x t : ℕ) → x ≡ 31 → (t ≡ 0 → ⊥) → 2143289344 ≡ to_bits binary32 (half_of_fields s x t)
nan_bits s x t a some =
    one_nan
    ∙ ap (to_bits binary32) (sym (cond_no (eqb t 0) _ _ (not_T (eqb t 0) (λ q. some (eqb→eq _ _ q)))))
    ∙ ap (λ y. to_bits binary32 (half_of_fields s y t)) (sym a)

nothing : 0 ≡ to_bits binary32 (half_of_fields false 0 0)
unfolding odd to_bits
nothing = refl

pub zero_bits : (x t : ℕ) → x ≡ 0 → t ≡ 0 → 0 ≡ to_bits binary32 (half_of_fields false x t)
zero_bits x t a b = nothing ∙ λ i. to_bits binary32 (half_of_fields false (sym a i) (sym b i))

-- ---- every half is a single

as_single : (s : Bool) (q e : ℕ) → q < 2 ^ 11 → e ≤ 31 → T (fits binary32 (odd 11 s q e 24))
as_single s q e a b =
    let far : 11 + (e + 125) ≤ 277 = omega (arith, b) in
    subst (λ v. T (fits binary32 v)) (other_units 11 s q e 24 125)
    (odd-fits binary32 11 s q (e + 125) a (omega (arith, a)) (lt_of_lt_of_le (shl_lt 11 (e + 125) a) (pow_mono far)))

half_fits : (s : Bool) (x t : ℕ) → x ≤ 31 → t < 1024 → T (fits binary32 (half_of_fields s x t))
half_fits s x t a b =
    cond-fits binary32 (eqb x 31) _ _
    (cond-fits binary32 (eqb t 0) _ _ (inf-fits binary32 s) (nan-fits binary32))
    (cond-fits binary32 (eqb x 0) _ _ (as_single s t 0 (omega (arith, b)) (omega arith)) (as_single s (1024 + t) (x - 1) (omega (arith, b)) (omega (arith, a))))

pub half_reads_back : (bits : ℕ) → bits < 65536 → parse_float binary32 (half_text bits) ≡ Some (half_value bits)
half_reads_back bits h =
    let f = half_fits (not (nat_lt bits 32768)) (bits % 32768 / 1024) (bits % 1024) (omega arith) (omega arith) in
    reads-back binary32 (single_of_half bits) (to_bits-lt binary32 (half_value bits) f) ∙ ap Some (of_bits-to_bits binary32 (half_value bits) f)
