-- Digits and the numbers that have them.
use Rattle.std.proofs.Common.{◌≡◌, ℕ, zero, suc, ◌+◌, ◌-◌, ◌*◌, ◌/◌, ◌%◌, ◌^◌, ◌<◌, ◌≤◌, inl, inr, false, cond, nat_eq, List, [], ◌∷◌, ◌++◌, length, get_or, take, drop, map, replicate, refl, sym, ap, ◌∙◌, subst, arith, append_assoc, length-append}
use Rattle.std.proofs.Math.Seq.{take-append_seam, drop-append_seam}
use Rattle.std.proofs.lemmas.List.{append-nil, length_push, same_from_push, map-append, replicate_more, get_or_append_left}
use Rattle.std.proofs.lemmas.Fmt.{decimal_by_steps_wide}
use Rattle.std.proofs.lemmas.Int.Digits.{digits_of_step}
use Rattle.std.proofs.lemmas.Bool.Decides.{nat_tests, leb_tells}
use Rattle.std.specs.Fmt.{decimal}
use Rattle.std.specs.Int.Digits.{digits_of}
use Rattle.json_write.specs.Digits.{digit, number_text, last_digits, fraction_text}
use native.Mathlib.Nat.{div-one, div-div-eq-div-mul, div-eq_of_lt, pow-succ', one-le-pow}

-- ---- powers of ten

pub ten_more : (k : ℕ) → 10 ^ suc k ≡ 10 * 10 ^ k
ten_more k = pow-succ' 10 k

pub ten_some : (k : ℕ) → 1 ≤ 10 ^ k
ten_some k = one-le-pow k 10 (omega arith)

pub quotient_more : (n k : ℕ) → n / 10 ^ suc k ≡ n / 10 / 10 ^ k
quotient_more n k = ap (λ p. n / p) (ten_more k) ∙ sym (div-div-eq-div-mul n 10 (10 ^ k))

pub quotient_none : (n : ℕ) → n / 10 ^ 0 ≡ n
quotient_none n = div-one n

-- ---- the last digits

pub last_digits_next : (k n : ℕ) → last_digits (suc k) n ≡ last_digits k (n / 10) ++ digit (n % 10) ∷ []
unfolding last_digits
last_digits_next k n = refl

pub last_digits_step : (k n : ℕ) → 0 < k → last_digits k n ≡ last_digits (k - 1) (n / 10) ++ digit (n % 10) ∷ []
last_digits_step zero n h = absurd (omega arith)
last_digits_step (suc k) n h = let back : suc k - 1 ≡ k = omega arith in rw back (last_digits_next k n)

pub last_digits_none : (k n : ℕ) → k ≡ 0 → last_digits k n ≡ []
last_digits_none zero n h = unfold last_digits in refl
last_digits_none (suc k) n h = absurd (omega arith)

pub length-last_digits : (k n : ℕ) → length (last_digits k n) ≡ k
length-last_digits zero n = ap length (last_digits_none 0 n refl)
length-last_digits (suc k) n = omega (arith, ap length (last_digits_next k n), length_push (last_digits k (n / 10)) (digit (n % 10)), length-last_digits k (n / 10))

-- a number is determined by its last digits and what precedes them
pub same_digits : (k m n : ℕ) → m / 10 ^ k ≡ n / 10 ^ k → last_digits k m ≡ last_digits k n → m ≡ n
same_digits zero m n q d = sym (quotient_none m) ∙ q ∙ quotient_none n
same_digits (suc k) m n q d =
    let parts = same_from_push (last_digits k (m / 10)) (last_digits k (n / 10)) (digit (m % 10)) (digit (n % 10)) (sym (last_digits_next k m) ∙ d ∙ last_digits_next k n) in
    let tens : m / 10 ≡ n / 10 = same_digits k (m / 10) (n / 10) (sym (quotient_more m k) ∙ q ∙ quotient_more n k) parts.0 in
    omega (arith, parts.1)

pub same_small : (k m n : ℕ) → m < 10 ^ k → n < 10 ^ k → last_digits k m ≡ last_digits k n → m ≡ n
same_small k m n h i d = same_digits k m n (div-eq_of_lt h ∙ sym (div-eq_of_lt i)) d

pub not_zero : (k : ℕ) → 0 < k → nat_eq k 0 ≡ false
not_zero k h = grind (arith, nat_tests)

pub length-fraction : (k n : ℕ) → length (fraction_text k n) ≡ cond (nat_eq k 0) 0 (suc k)
length-fraction zero n = refl
length-fraction (suc k) n = let t = not_zero (suc k) (omega arith) in rw t (ap suc (length-last_digits (suc k) n))

-- the same of a fraction
pub same_fraction : (k m n : ℕ) → m / 10 ^ k ≡ n / 10 ^ k → fraction_text k m ≡ fraction_text k n → m ≡ n
same_fraction zero m n q d = sym (quotient_none m) ∙ q ∙ quotient_none n
same_fraction (suc k) m n q d = let t = not_zero (suc k) (omega arith) in same_digits (suc k) m n q (ap (λ xs. drop 1 xs) (rw t at d))

-- ---- numbers of any size

pub number_text_one : (n : ℕ) → n < 10 → number_text n ≡ digit n ∷ []
unfolding number_text
number_text_one zero h = refl
number_text_one (suc m) h =
    let q : suc m / 10 ≡ 0 = omega arith in
    let r : suc m % 10 ≡ suc m = omega arith in
    let e : digits_of 10 (suc m) ≡ suc m ∷ [] = digits_of_step 10 (suc m) (omega arith) (omega arith) ∙ rw (q, r) in
    let t = not_zero (suc m) (omega arith) in
    let full = ap (map digit) e in
    rw t (rw t at full)

pub number_text_more : (n : ℕ) → 10 ≤ n → number_text n ≡ number_text (n / 10) ++ digit (n % 10) ∷ []
unfolding number_text
number_text_more n h =
    let s : nat_eq n 0 ≡ false = grind (arith, nat_tests) in
    let t : nat_eq (n / 10) 0 ≡ false = grind (arith, nat_tests) in
    rw (s, t) (ap (map digit) (digits_of_step 10 n (omega arith) (omega arith)) ∙ map-append digit (digits_of 10 (n / 10)) (n % 10 ∷ []))

number_by_fuel : (P : ℕ → List ℕ → Type 0) → ((n : ℕ) → n < 10 → P n (digit n ∷ [])) → ((n : ℕ) (ds : List ℕ) → 10 ≤ n → P (n / 10) ds → P n (ds ++ digit (n % 10) ∷ [])) → (k n : ℕ) → n ≤ k → P n (number_text n)
number_by_fuel P one more zero n h = subst (P n) (sym (number_text_one n (omega arith))) (one n (omega arith))
number_by_fuel P one more (suc k) n h =
    elim (leb_tells 10 n) [
      | inl g ↦ subst (P n) (sym (number_text_more n g.1)) (more n (number_text (n / 10)) g.1 (number_by_fuel P one more k (n / 10) (omega arith)))
      | inr g ↦ subst (P n) (sym (number_text_one n g.1)) (one n g.1)
    ]

-- an induction on the digits
pub number_by_steps : (P : ℕ → List ℕ → Type 0) → ((n : ℕ) → n < 10 → P n (digit n ∷ [])) → ((n : ℕ) (ds : List ℕ) → 10 ≤ n → P (n / 10) ds → P n (ds ++ digit (n % 10) ∷ [])) → (n : ℕ) → P n (number_text n)
number_by_steps P one more n = number_by_fuel P one more n n (omega arith)

pub decimal_is_number : (n : ℕ) → n < 10 ^ 64 → decimal n ≡ number_text n
decimal_is_number n h =
    decimal_by_steps_wide (λ m ds. ds ≡ number_text m) (λ m g. sym (number_text_one m g))
    (λ m ds g e. ap (λ xs. xs ++ digit (m % 10) ∷ []) e ∙ sym (number_text_more m g)) n h

pub number_first : (n : ℕ) → (0 < length (number_text n)) × (48 ≤ get_or (number_text n) 0 0)
number_first n =
    number_by_steps (λ m ds. (0 < length ds) × (48 ≤ get_or ds 0 0)) (λ m h. (omega arith, omega arith))
    (λ m ds h p. (omega (arith, length_push ds (digit (m % 10))), rw (get_or_append_left ds (digit (m % 10) ∷ []) 0 0 p.0) p.1)) n

-- a number is determined by its text
pub number_injective : (n m : ℕ) → number_text m ≡ number_text n → m ≡ n
number_injective n m e = (number_by_steps (λ n ds. (0 < length ds) × ((m : ℕ) → number_text m ≡ ds → m ≡ n))
    (λ n h. (
      omega arith,
      λ m e. elim (leb_tells 10 m) [
        | inl g ↦ absurd (omega (arith, ap length (sym (number_text_more m g.1) ∙ e), length_push (number_text (m / 10)) (digit (m % 10)), (number_first (m / 10)).0))
        | inr g ↦ omega (arith, ap (λ xs. get_or xs 0 0) (sym (number_text_one m g.1) ∙ e))
      ],
    ))
    (λ n ds h p. (
      omega (arith, length_push ds (digit (n % 10))),
      λ m e. elim (leb_tells 10 m) [
        | inl g ↦
            let parts = same_from_push (number_text (m / 10)) ds (digit (m % 10)) (digit (n % 10)) (sym (number_text_more m g.1) ∙ e) in
            omega (arith, p.1 (m / 10) parts.0, parts.1)
        | inr g ↦ absurd (omega (arith, ap length (sym (number_text_one m g.1) ∙ e), length_push ds (digit (n % 10)), p.0))
      ],
    )) n).1 m e

-- ---- numbers and their last digits

-- a number that has more than `k` digits ends with the last `k`
pub number_ends : (k n : ℕ) → 10 ^ k ≤ n → number_text n ≡ number_text (n / 10 ^ k) ++ last_digits k n
number_ends zero n h = rw (quotient_none n, last_digits_none 0 n refl) (sym (append-nil (number_text n)))
number_ends (suc k) n h =
    let p = ten_more k in
    let s = ten_some k in
    let tens : 10 ^ k ≤ n / 10 = omega arith in
    number_text_more n (omega arith) ∙ ap (λ xs. xs ++ digit (n % 10) ∷ []) (number_ends k (n / 10) tens) ∙ append_assoc (number_text (n / 10 / 10 ^ k)) (last_digits k (n / 10)) (digit (n % 10) ∷ [])
    ∙ ap (λ xs. number_text (n / 10 / 10 ^ k) ++ xs) (sym (last_digits_next k n)) ∙ ap (λ q. number_text q ++ last_digits (suc k) n) (sym (quotient_more n k))

last_zeros : (k : ℕ) → last_digits k 0 ≡ replicate k 48
last_zeros zero = last_digits_none 0 0 refl
last_zeros (suc k) =
    let next : k + 1 ≡ suc k = omega arith in
    last_digits_next k 0 ∙ ap (λ xs. xs ++ 48 ∷ []) (last_zeros k) ∙ replicate_more k 48 ∙ ap (λ n. replicate n 48) next

positive : (k n : ℕ) → 0 < n → n < 10 ^ k → 0 < k
positive zero n h i = omega arith
positive (suc k) n h i = omega arith

-- any other has zeros before it
pub last_digits_pad : (k n : ℕ) → 0 < k → n < 10 ^ k → (length (number_text n) ≤ k) × (last_digits k n ≡ replicate (k - length (number_text n)) 48 ++ number_text n)
last_digits_pad zero n some h = absurd (omega arith)
last_digits_pad (suc k) n some h =
    let p = ten_more k in
    elim (leb_tells 10 n) [
      | inl g ↦
          let tens : n / 10 < 10 ^ k = omega arith in
          let more : 0 < k = positive k (n / 10) (omega arith) tens in
          let before = last_digits_pad k (n / 10) more tens in
          let size : length (number_text n) ≡ length (number_text (n / 10)) + 1 = ap length (number_text_more n g.1) ∙ length_push (number_text (n / 10)) (digit (n % 10)) in
          let gap : suc k - length (number_text n) ≡ k - length (number_text (n / 10)) = omega arith in (
            omega (arith, before.0),
            last_digits_next k n ∙ ap (λ xs. xs ++ digit (n % 10) ∷ []) before.1
                ∙ append_assoc (replicate (k - length (number_text (n / 10))) 48) (number_text (n / 10)) (digit (n % 10) ∷ [])
                ∙ ap (λ xs. replicate (k - length (number_text (n / 10))) 48 ++ xs) (sym (number_text_more n g.1)) ∙ ap (λ i. replicate i 48 ++ number_text n) (sym gap),
          )
      | inr g ↦
          let q : n / 10 ≡ 0 = omega arith in
          let r : n % 10 ≡ n = omega arith in
          let one = number_text_one n g.1 in
          let gap : suc k - 1 ≡ k = omega arith in
          rw one (omega arith, last_digits_next k n ∙ rw (q, r, last_zeros k, gap))
    ]

-- ---- text in two parts, the second of a known length

pub same_parts : (xs us ys vs : List ℕ) → length ys ≡ length vs → xs ++ ys ≡ us ++ vs → (xs ≡ us) × (ys ≡ vs)
same_parts xs us ys vs l e =
    let n : length xs ≡ length us = omega (arith, ap length e, length-append xs ys, length-append us vs) in (
      sym (take-append_seam xs ys) ∙ ap (λ zs. take (length xs) zs) e ∙ ap (λ i. take i (us ++ vs)) n ∙ take-append_seam us vs,
      sym (drop-append_seam xs ys) ∙ ap (λ zs. drop (length xs) zs) e ∙ ap (λ i. drop i (us ++ vs)) n ∙ drop-append_seam us vs,
    )

-- the steps of `write_last_digits`
pub ruleset digit_steps = (last_digits_step, last_digits_none)
