-- The fractions that read as a number are those within half a unit of its significand.
use Rattle.std.proofs.Common.{◌≡◌, ℕ, zero, suc, ◌+◌, ◌*◌, ◌/◌, ◌%◌, ◌^◌, ◌<◌, ◌≤◌, inl, inr, sym, subst, ap, ◌∙◌, arith, mod-lt, mul-le-mul_right, mul-pos, div-add-mod', pow-add}
use Rattle.std.proofs.lemmas.Bool.{cases_lt}
use lib.Ieee.{Format, binary32, binary64, prec, low, hid, ones}
use lib.Ieee.Nearest.{closest}
use Rattle.fast_float.specs.Rounding.{IsNearestBits, scaled_bits}
use Rattle.fast_float.proofs.Patterns.{shape}
use Rattle.fast_float.proofs.RoundingLemmas.{nearest_of_near, nearest_tie}
use Rattle.float_text.specs.Shortest.{exponent, significand}
use Rattle.float_text.proofs.Closest.{closest-tie, off-above, off-below}
use Rattle.float_text.proofs.Exact.{significand-lt, significand-some}
use Rattle.float_text.proofs.Monotone.{bits_near, digits, digits-least, digits-most, dropped}
use Rattle.float_text.proofs.Powers.{power-pos}
use Rattle.float_text.proofs.Seventeen.{normal, scaled-is}

-- n is at most half of u off m * u, and just half only where m is even
pub record IsWithinHalf (n m u : ℕ) : Type 0 where
  pub above : 2 * n ≤ 2 * (m * u) + u
  pub below : 2 * (m * u) ≤ 2 * n + u
  pub upper_tie : 2 * n ≡ 2 * (m * u) + u → m % 2 ≡ 0
  pub lower_tie : 2 * (m * u) ≡ 2 * n + u → m % 2 ≡ 0

pub within-of-closest : (n m u : ℕ) → 0 < u → closest n u ≡ m → IsWithinHalf n m u
within-of-closest n m u U e =
    let from : n / u * u ≤ n = omega (arith, div-add-mod' n u) in
    let below : n < n / u * u + u = omega (arith, div-add-mod' n u, mod-lt n U) in
    let same = ap (λ x. x * u) e in
    record {
      above = omega (arith, off-above n u (n / u) from below, same);
      below = omega (arith, off-below n u (n / u) from below, same);
      upper_tie = (λ t. even (sym e ∙ closest-tie n u m (omega arith) (omega arith) t));
      lower_tie = lower m e;
    }
  where
    even : m ≡ m + m % 2 → m % 2 ≡ 0
    even h = omega arith

    lower : (m : ℕ) → closest n u ≡ m → 2 * (m * u) ≡ 2 * n + u → m % 2 ≡ 0
    lower zero e t = omega arith
    lower (suc j) e t =
        let tie : closest n u ≡ j + j % 2 = closest-tie n u j (omega arith) (omega arith) (omega arith) in
        let both : suc j ≡ j + j % 2 = sym e ∙ tie in
        omega arith

module _ (f : Format) (bits : ℕ) (some : 0 < bits) (finite : bits < ones f * hid f) where
  abbrev m : ℕ
  m = significand f bits

  abbrev k : ℕ
  k = exponent f bits

  -- a power of two whose lower neighbour is half as far as the upper one
  abbrev pub Edge : Type 0
  Edge = (0 < k) × (m ≡ hid f)

  small : m < 2 * hid f
  small = omega (arith, significand-lt f bits, (shape f).twice)

  are-bits : (k * hid f + m ≡ bits)
  are-bits = omega (arith, scaled-is f bits finite)

  module _ (num den : ℕ) (D : 0 < den) where
    abbrev n : ℕ
    n = num * 2 ^ low f

    abbrev u : ℕ
    u = den * 2 ^ k

    U : 0 < u
    U = mul-pos D (power-pos 2 k (omega arith))

    at-edge : (c j : ℕ) → k ≡ j + 1 → m ≡ hid f → c ≡ 2 * hid f → closest n (den * 2 ^ j) ≡ c → IsWithinHalf n m u
    at-edge c j e h full near =
        let s = shape f in
        let half = den * 2 ^ j in
        let H : 0 < half = mul-pos D (power-pos 2 j (omega arith)) in
        let w = within-of-closest n c half H near in
        let twice : u ≡ 2 * half = omega (arith, ap (λ x. den * x) (ap (λ x. 2 ^ x) e ∙ pow-add 2 j 1)) in
        let same : m * u ≡ c * half = omega (arith, ap (λ x. m * x) twice, ap (λ x. x * half) h, ap (λ x. x * half) full) in
        let even : m % 2 ≡ 0 = omega (arith, h, hidden-even f) in
        record { above = omega (arith, w.above, same, twice); below = omega (arith, w.below, same, twice); upper_tie = (λ t. even); lower_tie = (λ t. even) }
      where
        hidden-even : (f : Format) → hid f % 2 ≡ 0
        hidden-even binary32 = omega arith
        hidden-even binary64 = omega arith

    pub within-of-near : bits_near f num den ≡ bits → IsWithinHalf n m u
    within-of-near e =
        let j = dropped f num den in
        let c = digits f num den in
        let sum : j * hid f + c ≡ bits = omega (arith, e) in
        elim (cases_lt j k) [
          | inl l ↦
              let next : j + 1 ≤ k = omega arith in
              let product = mul-le-mul_right (hid f) next in
              let K : 0 < k = omega arith in
              let least = normal f bits K in
              let most = digits-most f num den in
              let h : m ≡ hid f = omega (arith, sum, are-bits, product, least, most) in
              let full : c ≡ 2 * hid f = omega (arith, sum, are-bits, product, least, most) in
              let same : k ≡ j + 1 = one-more j k (hid f) (omega (arith, (shape f).some)) next (omega (arith, sum, are-bits, h, full)) in
              at-edge c j same h full (ap (λ x. x) full ∙ sym full)
          | inr g ↦ elim (cases_lt k j) [
            | inl l ↦
                let next : k + 1 ≤ j = omega arith in
                absurd (omega (arith, sum, are-bits, small, mul-le-mul_right (hid f) next, digits-least f num den (omega (arith, l))))
            | inr h ↦
                let same : j ≡ k = omega (arith, g, h) in
                let equal : c ≡ m = omega (arith, sum, are-bits, ap (λ x. x * hid f) same) in
                within-of-closest n m u U (ap (λ x. closest n (den * 2 ^ x)) (sym same) ∙ equal)
          ]
        ]
      where
        one-more : (j k h : ℕ) → 0 < h → j + 1 ≤ k → k * h ≡ j * h + h → k ≡ j + 1
        one-more j k h H l e = elim (cases_lt (j + 1) k) [
          | inr g ↦ omega arith
          | inl g ↦ (let more : j + 2 ≤ k = omega arith in absurd (omega (arith, mul-le-mul_right h more)))
        ]

    near-as : (c : ℕ) → IsNearestBits f num den (scaled_bits f c k) → c ≡ m → IsNearestBits f num den bits
    near-as c h e = subst (IsNearestBits f num den) (ap (λ x. scaled_bits f x k) e ∙ scaled-is f bits finite) h

    strictly : (0 < k → hid f * u ≤ n) → 2 * (m * u) < 2 * n + u → 2 * n < 2 * (m * u) + u → IsNearestBits f num den bits
    strictly least below above =
        near-as m (nearest_of_near f num den m k D (omega (arith, significand-lt f bits)) (normal f bits) least below above) (λ i. m)

    -- at least the number
    pub near-of-above : m * u ≤ n → 2 * n ≤ 2 * (m * u) + u → (2 * n ≡ 2 * (m * u) + u → m % 2 ≡ 0) → IsNearestBits f num den bits
    near-of-above least most tie = elim (cases_lt (2 * n) (2 * (m * u) + u)) [
      | inl l ↦ strictly (λ K. omega (arith, least, mul-le-mul_right u (normal f bits K))) (omega (arith, least, U)) l
      | inr g ↦
          let e : 2 * n ≡ 2 * (m * u) + u = omega arith in
          let even = tie e in
          near-as (m + m % 2)
          (nearest_tie f num den m k D (record { significand = record { fits = significand-lt f bits; normal = normal f bits }; from = least; below = omega (arith, e, U) }) (omega (arith, e)))
          (omega (arith, even))
    ]

    -- below a number that is no such power of two
    pub near-of-below : (0 < k → hid f + 1 ≤ m) → n < m * u → 2 * (m * u) ≤ 2 * n + u → (2 * (m * u) ≡ 2 * n + u → m % 2 ≡ 0) → IsNearestBits f num den bits
    near-of-below more under most tie = elim (cases_lt (2 * (m * u)) (2 * n + u)) [
      | inl l ↦ strictly (λ K. omega (arith, most, U, mul-le-mul_right u (more K))) l (omega (arith, under))
      | inr g ↦ at-tie m more (significand-lt f bits) (significand-some f bits some) (omega arith) (tie (omega arith)) (λ c h e. near-as c h e)
    ]
      where
        at-tie : (x : ℕ) → (0 < k → hid f + 1 ≤ x) → x < 2 ^ prec f → 0 < x → 2 * (x * u) ≡ 2 * n + u → x % 2 ≡ 0
            → ((c : ℕ) → IsNearestBits f num den (scaled_bits f c k) → c ≡ x → IsNearestBits f num den bits) → IsNearestBits f num den bits
        at-tie zero more fits some e even made = absurd (omega arith)
        at-tie (suc j) more fits some e even made =
            made (j + j % 2)
            (nearest_tie f num den j k D (record { significand = record { fits = omega (arith, fits); normal = (λ K. omega (arith, more K)) }; from = omega (arith, e); below = omega (arith, e, U) }) (omega (arith, e)))
            (omega (arith, even))
