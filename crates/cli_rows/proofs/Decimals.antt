-- Decimal numbers compared exactly.
use Rattle.std.proofs.Common.{◌≡◌, ℕ, zero, suc, ◌+◌, ◌-◌, ◌*◌, ◌^◌, ◌<◌, ◌≤◌, Bool, true, false, cond, ltb, inl, inr, refl, sym, ap, subst, ◌∙◌, arith}
use Rattle.std.specs.Prelude.{◌⊎◌, ℤ, pos, negsuc, neg_ℤ, ◌*ℤ◌, ◌<ℤ◌, ◌≤ℤ◌, int_lt, FitsSigned}
use Rattle.std.specs.Ordering.{int_cmp, ordering_reverse}
use Rattle.std.specs.declared.cmp.Ordering.TheVariants.{Less, Equal, Greater}
use Rattle.std.proofs.Math.Nat.{mul_assoc, mul-le-mul_left, mul-lt-mul_of_pos_right, mul-le-mul_right, pow-suc, one-le-pow}
use Rattle.std.proofs.lemmas.Nat.{pow-add}
use Rattle.std.proofs.lemmas.Bool.{cases_lt, ltb-true, ltb-false, lt-ltb, le-ltb}
use Rattle.std.proofs.lemmas.Cmp.{int_cmp_total}
use Rattle.std.specs.Int.{w128}
use Rattle.std.proofs.lemmas.Int.{ints}

-- ---- products

neg-pos : (m : ℕ) → 0 < m → neg_ℤ (pos m) ≡ negsuc (m - 1)
neg-pos zero h = absurd (omega (arith, h))
neg-pos (suc m) h = let e : m ≡ suc m - 1 = omega arith in ap negsuc e

neg-times : (m k : ℕ) → neg_ℤ (pos m) *ℤ pos k ≡ neg_ℤ (pos (m * k))
neg-times zero k = let e : 0 * k ≡ 0 = omega arith in ap pos e ∙ ap (λ j. neg_ℤ (pos j)) (sym e)
neg-times (suc m) k = refl

pub times-times : (x : ℤ) (a b : ℕ) → (x *ℤ pos a) *ℤ pos b ≡ x *ℤ pos (a * b)
times-times (pos n) a b = ap pos (mul_assoc n a b)
times-times (negsuc n) a b = neg-times (suc n * a) b ∙ ap (λ m. neg_ℤ (pos m)) (mul_assoc (suc n) a b)

product-pos : (n c : ℕ) → 0 < c → 0 < suc n * c
product-pos n c h = let e = mul-lt-mul_of_pos_right {m = 0} {n = suc n} {k = c} (omega arith) h in omega (arith, e)

negsuc-times : (n c : ℕ) → 0 < c → negsuc n *ℤ pos c ≡ negsuc (suc n * c - 1)
negsuc-times n c h = neg-pos (suc n * c) (product-pos n c h)

-- ---- the order of products

same-lt : (a b c : ℕ) → 0 < c → ltb (a * c) (b * c) ≡ ltb a b
same-lt a b c h = by (ltb a b) refl
  where
    by : (q : Bool) → ltb a b ≡ q → ltb (a * c) (b * c) ≡ q
    by true e = lt-ltb (a * c) (b * c) (mul-lt-mul_of_pos_right {m = a} {n = b} {k = c} (ltb-true a b e) h)
    by false e = le-ltb (a * c) (b * c) (mul-le-mul_right {m = b} {n = a} c (ltb-false a b e))

less-one : (m n : ℕ) → 0 < m → 0 < n → ltb (m - 1) (n - 1) ≡ ltb m n
less-one m n h k = by (ltb m n) refl
  where
    by : (q : Bool) → ltb m n ≡ q → ltb (m - 1) (n - 1) ≡ q
    by true e = lt-ltb (m - 1) (n - 1) (omega (arith, ltb-true m n e))
    by false e = le-ltb (m - 1) (n - 1) (omega (arith, ltb-false m n e))

suc-lt : (a b : ℕ) → ltb (suc a) (suc b) ≡ ltb a b
suc-lt a b = by (ltb a b) refl
  where
    by : (q : Bool) → ltb a b ≡ q → ltb (suc a) (suc b) ≡ q
    by true e = lt-ltb (suc a) (suc b) (omega (arith, ltb-true a b e))
    by false e = le-ltb (suc a) (suc b) (omega (arith, ltb-false a b e))

same-int_lt : (x y : ℤ) (c : ℕ) → 0 < c → int_lt (x *ℤ pos c) (y *ℤ pos c) ≡ int_lt x y
same-int_lt (pos a) (pos b) c h = same-lt a b c h
same-int_lt (pos a) (negsuc b) c h = ap (int_lt (pos (a * c))) (negsuc-times b c h)
same-int_lt (negsuc a) (pos b) c h = ap (λ z. int_lt z (pos (b * c))) (negsuc-times a c h)
same-int_lt (negsuc a) (negsuc b) c h =
    (λ i. int_lt (negsuc-times a c h i) (negsuc-times b c h i))
    ∙ less-one (suc b * c) (suc a * c) (product-pos b c h) (product-pos a c h)
    ∙ same-lt (suc b) (suc a) c h
    ∙ suc-lt b a

pub same-cmp : (x y : ℤ) (c : ℕ) → 0 < c → int_cmp (x *ℤ pos c) (y *ℤ pos c) ≡ int_cmp x y
same-cmp x y c h = λ i. cond (same-int_lt x y c h i) Less (cond (same-int_lt y x c h i) Greater Equal)

-- ---- what the code compares

pub less-digits : (x y : ℤ) (s k : ℕ) → s ≤ k → int_cmp (x *ℤ pos (10 ^ (k - s))) y ≡ int_cmp (x *ℤ pos (10 ^ k)) (y *ℤ pos (10 ^ s))
less-digits x y s k h =
    let e : (k - s) + s ≡ k = omega arith in
    let p : 10 ^ (k - s) * 10 ^ s ≡ 10 ^ k = sym (pow-add 10 (k - s) s) ∙ ap (λ n. 10 ^ n) e in
    sym (same-cmp (x *ℤ pos (10 ^ (k - s))) y (10 ^ s) (one-le-pow s 10 (omega arith)))
    ∙ ap (λ z. int_cmp z (y *ℤ pos (10 ^ s))) (times-times x (10 ^ (k - s)) (10 ^ s) ∙ ap (λ n. x *ℤ pos n) p)

pub more-digits : (x y : ℤ) (s k : ℕ) → k ≤ s → ordering_reverse (int_cmp (y *ℤ pos (10 ^ (s - k))) x) ≡ int_cmp (x *ℤ pos (10 ^ k)) (y *ℤ pos (10 ^ s))
more-digits x y s k h = ap ordering_reverse (less-digits y x k s h) ∙ sym (int_cmp_total.antisymm (x *ℤ pos (10 ^ k)) (y *ℤ pos (10 ^ s)))

pub one-digit : (x y : ℤ) (d : ℕ) → 0 < d → int_cmp ((x *ℤ pos 10) *ℤ pos (10 ^ (d - 1))) y ≡ int_cmp (x *ℤ pos (10 ^ d)) y
one-digit x y d h =
    let e : suc (d - 1) ≡ d = omega arith in
    let p : 10 * 10 ^ (d - 1) ≡ 10 ^ d = omega (arith, pow-suc 10 (d - 1)) ∙ ap (λ n. 10 ^ n) e in
    ap (λ z. int_cmp z y) (times-times x 10 (10 ^ (d - 1)) ∙ ap (λ n. x *ℤ pos n) p)

ten-digits : (d : ℕ) → 0 < d → 10 ≤ 10 ^ d
ten-digits zero h = absurd (omega (arith, h))
ten-digits (suc d) h = let e = one-le-pow d 10 (omega arith) in omega (arith, e, pow-suc 10 d)

least : (m : ℕ) (y : ℤ) → FitsSigned w128 y → 2 ^ 127 ≤ m → Less ≡ int_cmp (negsuc m) y
least m (pos b) fits h = refl
least m (negsuc b) fits h = let f : b < 2 ^ 127 = fits.sfits in ap (λ q. cond q Less (cond (ltb m b) Greater Equal)) (sym (lt-ltb b m (omega arith)))

greatest : (m : ℕ) (y : ℤ) → FitsSigned w128 y → 2 ^ 127 ≤ m → Greater ≡ int_cmp (pos m) y
greatest m (pos b) fits h =
    let f : b < 2 ^ 127 = fits.sfits in
    let p : ltb m b ≡ false = le-ltb m b (omega arith) in
    let q : ltb b m ≡ true = lt-ltb b m (omega arith) in
    sym (λ i. cond (p i) Less (cond (q i) Greater Equal))
greatest m (negsuc b) fits h = refl

-- a product that exceeds 128 bits
pub far-below : (x y : ℤ) (d : ℕ) → FitsSigned w128 y → 0 < d → x <ℤ pos 0 → (FitsSigned w128 (x *ℤ pos 10) → ⊥) → Less ≡ int_cmp (x *ℤ pos (10 ^ d)) y
far-below (pos n) y d fits h neg past = absurd (omega (arith, ints, neg))
far-below (negsuc n) y d fits h neg past =
    by (cases_lt (suc n * 10 - 1) (2 ^ 127))
  where
    t : 10 ≤ 10 ^ d
    t = ten-digits d h

    m : suc n * 10 ≤ suc n * 10 ^ d
    m = mul-le-mul_left (suc n) t

    by : (suc n * 10 - 1 < 2 ^ 127) ⊎ (2 ^ 127 ≤ suc n * 10 - 1) → Less ≡ int_cmp (negsuc n *ℤ pos (10 ^ d)) y
    by (inl f) = absurd (past (subst (FitsSigned w128) (sym (negsuc-times n 10 (omega arith))) (record { sfits = f })))
    by (inr f) = least (suc n * 10 ^ d - 1) y fits (omega (arith, m)) ∙ ap (λ z. int_cmp z y) (sym (negsuc-times n (10 ^ d) (omega (arith, ten-digits d h))))

pub far-above : (x y : ℤ) (d : ℕ) → FitsSigned w128 y → 0 < d → pos 0 ≤ℤ x → (FitsSigned w128 (x *ℤ pos 10) → ⊥) → Greater ≡ int_cmp (x *ℤ pos (10 ^ d)) y
far-above (negsuc n) y d fits h neg past = absurd (omega (arith, ints, neg))
far-above (pos n) y d fits h neg past = by (cases_lt (n * 10) (2 ^ 127))
  where
    m : n * 10 ≤ n * 10 ^ d
    m = mul-le-mul_left n (ten-digits d h)

    by : (n * 10 < 2 ^ 127) ⊎ (2 ^ 127 ≤ n * 10) → Greater ≡ int_cmp (pos n *ℤ pos (10 ^ d)) y
    by (inl f) = absurd (past (record { sfits = f }))
    by (inr f) = greatest (n * 10 ^ d) y fits (omega (arith, m))
