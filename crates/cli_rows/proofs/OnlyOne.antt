-- Two lists have one first difference.
use Rattle.std.proofs.Common.{◌≡◌, ℕ, ◌+◌, ◌<◌, ◌≤◌, List, take, drop, Option, Some, None, refl, sym, ap, ◌∙◌, arith}
use Rattle.std.proofs.Math.Nat.{lt_of_not-le}
use Rattle.nest_memory.specs.Sublist.{sublist}
use Rattle.nest_model.specs.Runs.{cut-cut}
use Rattle.cli_rows.specs.Difference.{IsDifference}

module _ {A : Type 0} where
  item-before : (k i : ℕ) (xs : List A) → i < k → sublist (take k xs) i 1 ≡ sublist xs i 1
  item-before k i xs h = let e : 0 + i ≡ i = omega arith in cut-cut xs 0 k i 1 (omega (arith, h)) ∙ ap (λ j. take 1 (drop j xs)) e

  same-before : (k i : ℕ) (xs ys : List A) → i < k → take k xs ≡ take k ys → sublist xs i 1 ≡ sublist ys i 1
  same-before k i xs ys h e = sym (item-before k i xs h) ∙ ap (λ l. sublist l i 1) e ∙ item-before k i ys h

  not-before : (xs ys : List A) (i k : ℕ) → IsDifference xs ys (Some i) → IsDifference xs ys (Some k) → k ≤ i
  not-before xs ys i k d e = let past : k < i + 1 = lt_of_not-le (λ h. d.1 (same-before k i xs ys (omega (arith, h)) e.0)) in omega (arith, past)

  pub one-place : (xs ys : List A) (d e : Option ℕ) → IsDifference xs ys d → IsDifference xs ys e → d ≡ e
  one-place xs ys None None d e = refl
  one-place xs ys None (Some k) d e = absurd (e.1 (ap (λ l. sublist l k 1) d))
  one-place xs ys (Some i) None d e = absurd (d.1 (ap (λ l. sublist l i 1) e))
  one-place xs ys (Some i) (Some k) d e =
      let a = not-before xs ys i k d e in
      let b = not-before xs ys k i e d in
      let same : i ≡ k = omega (arith, a, b) in
      ap (λ (n : ℕ). Some n) same
