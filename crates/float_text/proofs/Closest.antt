-- The whole number closest to n / u, by where the fraction lies to the point halfway from q to q + 1.
use Rattle.std.proofs.Common.{◌≡◌, ℕ, zero, suc, ◌+◌, ◌-◌, ◌*◌, ◌/◌, ◌%◌, ◌<◌, ◌≤◌, inl, inr, ap, ◌∙◌, arith, mul-le-mul_right}
use Rattle.std.proofs.lemmas.Bool.{cases_lt}
use Prim.Native.Nat.compare
use Prim.Native.Nat.{compare, Ordering}
use lib.Arith.{digits_div, digits_mod}
use lib.Ieee.{nearest}
use lib.Ieee.Nearest.{closest}

compare-lt : (a b : ℕ) → a < b → compare a b ≡ Ordering.lt
compare-lt zero (suc b) h = compare.zero-suc b
compare-lt (suc a) (suc b) h = compare.suc-suc a b ∙ compare-lt a b (omega arith)
compare-lt a zero h = absurd (omega arith)

compare-eq : (a b : ℕ) → a ≡ b → compare a b ≡ Ordering.eq
compare-eq zero zero h = compare.zero-zero
compare-eq (suc a) (suc b) h = compare.suc-suc a b ∙ compare-eq a b (omega arith)
compare-eq zero (suc b) h = absurd (omega arith)
compare-eq (suc a) zero h = absurd (omega arith)

compare-gt : (a b : ℕ) → b < a → compare a b ≡ Ordering.gt
compare-gt (suc a) zero h = compare.suc-zero a
compare-gt (suc a) (suc b) h = compare.suc-suc a b ∙ compare-gt a b (omega arith)
compare-gt zero b h = absurd (omega arith)

module _ (n u q : ℕ) (from : q * u ≤ n) (below : n < q * u + u) where
  at-whole : closest n u ≡ nearest q (compare ((n - q * u) * 2) u)
  at-whole =
      let e : n ≡ q * u + (n - q * u) = omega arith in
      let l : n - q * u < u = omega arith in
      let d : n / u ≡ q = ap (λ x. x / u) e ∙ digits_div q l in
      let m : n % u ≡ n - q * u = ap (λ x. x % u) e ∙ digits_mod q l in
      λ i. nearest (d i) (compare (m i * 2) u)

  pub closest-below : 2 * n < 2 * (q * u) + u → closest n u ≡ q
  closest-below h = at-whole ∙ ap (nearest q) (compare-lt _ _ (omega arith))

  pub closest-tie : 2 * n ≡ 2 * (q * u) + u → closest n u ≡ q + q % 2
  closest-tie h = at-whole ∙ ap (nearest q) (compare-eq _ _ (omega arith))

  pub closest-above : 2 * (q * u) + u < 2 * n → closest n u ≡ suc q
  closest-above h = at-whole ∙ ap (nearest q) (compare-gt _ _ (omega arith))

  -- what is rounded is off by half a unit at most
  pub off-below : 2 * (closest n u * u) ≤ 2 * n + u
  off-below = elim (cases_lt (2 * n) (2 * (q * u) + u)) [
    | inl a ↦ omega (arith, ap (λ x. x * u) (closest-below a))
    | inr b ↦ elim (cases_lt (2 * (q * u) + u) (2 * n)) [
      | inl a ↦ omega (arith, ap (λ x. x * u) (closest-above a))
      | inr c ↦ tie-below (omega arith)
    ]
  ]
    where
      tie-below : 2 * n ≡ 2 * (q * u) + u → 2 * (closest n u * u) ≤ 2 * n + u
      tie-below e =
          let odd : q % 2 ≤ 1 = omega arith in
          omega (arith, ap (λ x. x * u) (closest-tie e), mul-le-mul_right u odd)

  pub off-above : 2 * n ≤ 2 * (closest n u * u) + u
  off-above = elim (cases_lt (2 * n) (2 * (q * u) + u)) [
    | inl a ↦ omega (arith, ap (λ x. x * u) (closest-below a))
    | inr b ↦ elim (cases_lt (2 * (q * u) + u) (2 * n)) [
      | inl a ↦ omega (arith, ap (λ x. x * u) (closest-above a))
      | inr c ↦ omega (arith, ap (λ x. x * u) (closest-tie (omega arith)))
    ]
  ]
