-- No half is nearer to a number than the one that it is rounded to.
use Rattle.std.proofs.Common.{◌≡◌, ◌≢◌, ℕ, suc, ◌+◌, ◌-◌, ◌*◌, ◌/◌, ◌%◌, ◌^◌, ◌<◌, ◌≤◌, inl, inr, refl, sym, ap, subst, ◌∙◌, arith, mul-pos, pow-add, mul-le-mul_right, mul-lt-mul_of_pos_right}
use Rattle.std.proofs.lemmas.Bool.{cases_lt, lt-ltb, le-ltb}
use native.Mathlib.Nat.{div-div-eq-div-mul, eq-zero-or-pos, mod-lt, div-add-mod', pow-suc, le-div_iff_mul-le, div-lt_iff_lt-mul}
use lib.Pow.{pow_mono, pow_pos}
use lib.Ieee.{size}
use lib.Ieee.Digits.{size-lt, size_reaches}
use Rattle.json_read.specs.HalfNumbers.{distance, dropped, half_units, nearest_half}
use Rattle.json_read.proofs.ClosestIntegers.{closest-above, closest-below, closest-tie}

-- q * 2^k units, of which q has 11 digits, or fewer if k is 0
abbrev pub IsHalf : ℕ → ℕ → Type 0
IsHalf k q = (q < 2048) × (0 < k → 1024 ≤ q)

-- the parts of a half
record Parts (bits : ℕ) : Type 0 where
  k : ℕ
  q : ℕ
  half : IsHalf k q
  bits_are : bits ≡ k * 1024 + q
  units_are : half_units bits ≡ q * 2 ^ k

parts-of : (bits : ℕ) → Parts bits
parts-of bits = elim (cases_lt bits 1024) [
  | inl l ↦ record { k = 0; q = bits; half = (omega (arith, l), (λ z. absurd (omega (arith, z)))); bits_are = omega arith; units_are = rw (lt-ltb _ _ l) (omega arith) }
  | inr g ↦ record {
    k = bits / 1024 - 1;
    q = 1024 + bits % 1024;
    half = (omega arith, (λ _. omega arith));
    bits_are = omega (arith, g);
    units_are = rw (le-ltb _ _ g) refl;
  }
]

-- the larger of two halves has the larger bits
below-next : (j k q r : ℕ) → IsHalf j q → IsHalf k r → j < k → q * 2 ^ j < r * 2 ^ k
below-next j k q r a b l =
    let J = pow_pos j in
    let power : 2 ^ suc j ≤ 2 ^ k = pow_mono l in
    let twice : 2 ^ suc j ≡ 2 ^ j * 2 = pow-suc 2 j in
    let left : q * 2 ^ j < 2048 * 2 ^ j = mul-lt-mul_of_pos_right a.0 J in
    let right : 1024 * 2 ^ k ≤ r * 2 ^ k = mul-le-mul_right (2 ^ k) (b.1 (omega (arith, l))) in
    omega (arith, left, right, power, twice)

ordered : (j k q r : ℕ) → IsHalf j q → IsHalf k r → j * 1024 + q < k * 1024 + r → q * 2 ^ j < r * 2 ^ k
ordered j k q r a b l = elim (cases_lt j k) [
  | inl s ↦ below-next j k q r a b s
  | inr g ↦ elim (cases_lt k j) [
    | inl s ↦ absurd (omega (arith, a.0, b.0, a.1 (omega (arith, s)), l, s))
    | inr h ↦ (let e : k ≡ j = omega (arith, g, h) in subst (λ x. q * 2 ^ j < r * 2 ^ x) (sym e) (mul-lt-mul_of_pos_right (omega (arith, e, l)) (pow_pos j)))
  ]
]

pub units-ordered : (a b : ℕ) → a < b → half_units a < half_units b
units-ordered a b l =
    let p = parts-of a in
    let r = parts-of b in
    let found = ordered p.k r.k p.q r.q p.half r.half (omega (arith, p.bits_are, r.bits_are, l)) in
    omega (arith, found, p.units_are, r.units_are)

-- the units of bits that have these parts, also of the next half
units-at : (k q : ℕ) → q ≤ 2048 → (0 < k → 1024 ≤ q) → half_units (k * 1024 + q) ≡ q * 2 ^ k
units-at k q u l = elim (cases_lt q 2048) [
  | inl s ↦ (
      let p = parts-of (k * 1024 + q) in
      let same : p.k ≡ k = one-place p.k k p.q q p.half (s, l) (sym p.bits_are) in
      p.units_are ∙ ap (λ x. x * 2 ^ p.k) (omega (arith, p.bits_are, same)) ∙ ap (λ x. q * 2 ^ x) same
      )
  | inr g ↦ (
      let e : q ≡ 2048 = omega (arith, u, g) in
      let p = parts-of (k * 1024 + q) in
      let same : p.k ≡ suc k = one-place p.k (suc k) p.q 1024 p.half (omega arith, (λ _. omega arith)) (omega (arith, p.bits_are, e)) in
      let twice : 2 ^ suc k ≡ 2 ^ k * 2 = pow-suc 2 k in
      p.units_are ∙ ap (λ x. x * 2 ^ p.k) (omega (arith, p.bits_are, same, e)) ∙ ap (λ x. 1024 * 2 ^ x) same ∙ omega (arith, twice, ap (λ x. x * 2 ^ k) e)
      )
]
  where
    one-place : (j k q r : ℕ) → IsHalf j q → IsHalf k r → j * 1024 + q ≡ k * 1024 + r → j ≡ k
    one-place j k q r a b e = elim (cases_lt j k) [
      | inl s ↦ absurd (omega (arith, a.0, b.0, b.1 (omega (arith, s)), e, s))
      | inr g ↦ elim (cases_lt k j) [
        | inl s ↦ absurd (omega (arith, a.0, b.0, a.1 (omega (arith, s)), e, s))
        | inr h ↦ omega (arith, g, h)
      ]
    ]

-- ---- a number between two neighbouring halves

module _ (num den : ℕ) (D : 0 < den) where
  abbrev n : ℕ
  n = num * 2 ^ 24

  abbrev k : ℕ
  k = dropped num den

  abbrev u : ℕ
  u = den * 2 ^ k

  abbrev w : ℕ
  w = n / u

  U : 0 < u
  U = mul-pos D (pow_pos k)

  from : w * u ≤ n
  from = omega (arith, div-add-mod' n u)

  below : n < w * u + u
  below = omega (arith, div-add-mod' n u, mod-lt n U)

  whole-is : n / den / 2 ^ k ≡ w
  whole-is = div-div-eq-div-mul n den (2 ^ k)

  w-half : IsHalf k w
  w-half = (
    subst (λ x. x < 2048) whole-is ((div-lt_iff_lt-mul (pow_pos k)).1 (omega (arith, size-lt (n / den), long, power))),
    λ K. subst (λ x. 1024 ≤ x) whole-is ((le-div_iff_mul-le (pow_pos k)).1 (omega (arith, size_reaches (n / den) (k + 10) (omega (arith, K)), pow-add 2 k 10))),
  )
    where
      long : 2 ^ size (n / den) ≤ 2 ^ (k + 11)
      long = pow_mono (omega arith)

      power : 2 ^ (k + 11) ≡ 2 ^ k * 2 ^ 11
      power = pow-add 2 k 11

  -- the half below the number and the one above it
  lower-units : half_units (k * 1024 + w) * den ≡ w * u
  lower-units = ap (λ x. x * den) (units-at k w (omega (arith, w-half.0)) w-half.1) ∙ turn w (2 ^ k) den
    where
      turn : (a b c : ℕ) → a * b * c ≡ a * (c * b)
      turn a b c = grind arith

  upper-units : half_units (k * 1024 + suc w) * den ≡ w * u + u
  upper-units = ap (λ x. x * den) (units-at k (suc w) (omega (arith, w-half.0)) (λ K. omega (arith, w-half.1 K))) ∙ turn w (2 ^ k) den
    where
      turn : (a b c : ℕ) → suc a * b * c ≡ a * (c * b) + c * b
      turn a b c = grind arith

  -- the others are further away
  at-lower : (half : ℕ) → half ≤ k * 1024 + w → half_units half * den ≤ w * u
  at-lower half h = elim (cases_lt half (k * 1024 + w)) [
    | inl l ↦ omega (arith, lower-units, mul-lt-mul_of_pos_right (units-ordered half (k * 1024 + w) l) D)
    | inr g ↦ (let e : half ≡ k * 1024 + w = omega (arith, h, g) in omega (arith, ap (λ x. half_units x * den) e, lower-units))
  ]

  under-lower : (half : ℕ) → half < k * 1024 + w → half_units half * den < w * u
  under-lower half l = omega (arith, lower-units, mul-lt-mul_of_pos_right (units-ordered half (k * 1024 + w) l) D)

  at-upper : (half : ℕ) → k * 1024 + suc w ≤ half → w * u + u ≤ half_units half * den
  at-upper half h = elim (cases_lt (k * 1024 + suc w) half) [
    | inl l ↦ omega (arith, upper-units, mul-lt-mul_of_pos_right (units-ordered (k * 1024 + suc w) half l) D)
    | inr g ↦ (let e : half ≡ k * 1024 + suc w = omega (arith, h, g) in omega (arith, ap (λ x. half_units x * den) e, upper-units))
  ]

  over-upper : (half : ℕ) → k * 1024 + suc w < half → w * u + u < half_units half * den
  over-upper half l = omega (arith, upper-units, mul-lt-mul_of_pos_right (units-ordered (k * 1024 + suc w) half l) D)

  abbrev Nearest : ℕ → Type 0
  Nearest result = (half : ℕ) → (distance num den result ≤ distance num den half) × (half ≢ result → distance num den result ≡ distance num den half → result % 2 ≡ 0)

  nearest-lower : 2 * n < 2 * (w * u) + u → Nearest (k * 1024 + w)
  nearest-lower h half = elim (cases_lt (k * 1024 + w) half) [
    | inl l ↦ (let far = at-upper half (omega (arith, l)) in (omega (arith, lower-units, from, far, h), λ _ e. absurd (omega (arith, lower-units, from, far, h, e))))
    | inr g ↦ (let far = at-lower half g in (
      omega (arith, lower-units, from, far),
      λ d e. elim (cases_lt half (k * 1024 + w)) [
        | inl l ↦ absurd (omega (arith, lower-units, from, under-lower half l, e))
        | inr m ↦ absurd (d (omega (arith, g, m)))
      ],
    ))
  ]

  nearest-upper : 2 * (w * u) + u < 2 * n → Nearest (k * 1024 + suc w)
  nearest-upper h half = elim (cases_lt half (k * 1024 + suc w)) [
    | inl l ↦ (let far = at-lower half (omega (arith, l)) in (omega (arith, upper-units, below, far, h), λ _ e. absurd (omega (arith, upper-units, below, far, h, e))))
    | inr g ↦ (let far = at-upper half g in (
      omega (arith, upper-units, below, far),
      λ d e. elim (cases_lt (k * 1024 + suc w) half) [
        | inl l ↦ absurd (omega (arith, upper-units, below, over-upper half l, e))
        | inr m ↦ absurd (d (omega (arith, g, m)))
      ],
    ))
  ]

  nearest-tie : 2 * n ≡ 2 * (w * u) + u → Nearest (k * 1024 + (w + w % 2))
  nearest-tie h half = elim (eq-zero-or-pos (w % 2)) [
    | inl z ↦ (let e : k * 1024 + (w + w % 2) ≡ k * 1024 + w = omega (arith, z) in (as-near (k * 1024 + (w + w % 2)) (w * u) (ap (λ x. half_units x * den) e ∙ lower-units) (omega (arith, from, h)) (omega (arith, from, h)), λ _ _. omega arith))
    | inr o ↦ (let e : k * 1024 + (w + w % 2) ≡ k * 1024 + suc w = omega (arith, o) in (as-near (k * 1024 + (w + w % 2)) (w * u + u) (ap (λ x. half_units x * den) e ∙ upper-units) (omega (arith, from, h)) (omega (arith, from, h)), λ _ _. omega arith))
  ]
    where
      as-near : (result value : ℕ) → half_units result * den ≡ value → (n - value) + (value - n) ≤ n - w * u → (n - value) + (value - n) ≤ w * u + u - n → distance num den result ≤ distance num den half
      as-near result value e a b = elim (cases_lt (k * 1024 + w) half) [
        | inl l ↦ omega (arith, e, b, at-upper half (omega (arith, l)), below)
        | inr g ↦ omega (arith, e, a, at-lower half g, from)
      ]

  pub is-nearest : (half : ℕ) → (distance num den (nearest_half num den) ≤ distance num den half) × (half ≢ nearest_half num den → distance num den (nearest_half num den) ≡ distance num den half → nearest_half num den % 2 ≡ 0)
  is-nearest half = elim (cases_lt (2 * n) (2 * (w * u) + u)) [
    | inl l ↦ subst (λ q. Nearest (k * 1024 + q)) (sym (closest-below n u w from below l)) (nearest-lower l) half
    | inr g ↦ elim (cases_lt (2 * (w * u) + u) (2 * n)) [
      | inl m ↦ subst (λ q. Nearest (k * 1024 + q)) (sym (closest-above n u w from below m)) (nearest-upper m) half
      | inr c ↦ (let e : 2 * n ≡ 2 * (w * u) + u = omega (arith, g, c) in subst (λ q. Nearest (k * 1024 + q)) (sym (closest-tie n u w from below e)) (nearest-tie e) half)
    ]
  ]

-- ---- the range

-- 65520 is half way from the largest half to 2^16
pub in-range : (num den : ℕ) → 0 < den → num < 65520 * den → nearest_half num den < 31744
in-range num den D h = elim (cases_lt (nearest_half num den) 31744) [
  | inl l ↦ l
  | inr g ↦ absurd (closer num den D h (is-nearest num den D 31743) g)
]
  where
    closer : (num den : ℕ) → 0 < den → num < 65520 * den
        → (distance num den (nearest_half num den) ≤ distance num den 31743) × (31743 ≢ nearest_half num den → distance num den (nearest_half num den) ≡ distance num den 31743 → nearest_half num den % 2 ≡ 0)
        → 31744 ≤ nearest_half num den → ⊥
    closer num den D h near g =
        let most : half_units 31744 ≤ half_units (nearest_half num den) = at-least (nearest_half num den) g in
        let scaled : 1099511627776 * den ≤ half_units (nearest_half num den) * den = mul-le-mul_right den most in
        omega (arith, h, near.0, scaled)
      where
        at-least : (b : ℕ) → 31744 ≤ b → half_units 31744 ≤ half_units b
        at-least b g = elim (cases_lt 31744 b) [
          | inl l ↦ omega (arith, units-ordered 31744 b l)
          | inr m ↦ (let e : b ≡ 31744 = omega (arith, g, m) in omega (arith, ap half_units e))
        ]

pub past-limit : (num den : ℕ) → 0 < den → nearest_half num den < 31744 → num < 65520 * den
past-limit num den D h = elim (cases_lt num (65520 * den)) [
  | inl l ↦ l
  | inr g ↦ absurd (further num den D g (is-nearest num den D 31744) h)
]
  where
    further : (num den : ℕ) → 0 < den → 65520 * den ≤ num
        → (distance num den (nearest_half num den) ≤ distance num den 31744) × (31744 ≢ nearest_half num den → distance num den (nearest_half num den) ≡ distance num den 31744 → nearest_half num den % 2 ≡ 0)
        → nearest_half num den < 31744 → ⊥
    further num den D g near h = elim (cases_lt (nearest_half num den) 31743) [
      | inl l ↦ (
          let least = units-ordered (nearest_half num den) 31743 l in
          omega (arith, g, near.0, mul-lt-mul_of_pos_right least D, D)
          )
      | inr m ↦ (
          let e : nearest_half num den ≡ 31743 = omega (arith, h, m) in
          let value : half_units (nearest_half num den) * den ≡ 1098974756864 * den = ap (λ x. half_units x * den) e in
          let tie : distance num den (nearest_half num den) ≡ distance num den 31744 = omega (arith, g, near.0, value) in
          omega (arith, e, near.1 (λ d. omega (arith, d, e)) tie)
          )
    ]
