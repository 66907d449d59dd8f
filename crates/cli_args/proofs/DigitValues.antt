-- The numbers that digits encode.
use Rattle.std.proofs.Common.{◌≡◌, ℕ, zero, suc, ◌+◌, ◌*◌, ◌^◌, ◌≤◌, ◌<◌, List, [], ◌∷◌, ◌++◌, length, get_or, take, refl, length-append, arith}
use Rattle.std.specs.Char.{digit_value}
use Rattle.std.specs.Str.Parse.{AllDigits, digits_value, digits_value_after}
use Rattle.std.proofs.lemmas.Bool.Decides.{nat_tests}
use Rattle.std.proofs.lemmas.Int.Digits.{digits_value-lt}
use Rattle.std.proofs.Math.Nat.{pow-le-pow_right}

pub digit-range : (c : ℕ) → digit_value c < 10 → (48 ≤ c) × (digit_value c + 48 ≡ c)
digit-range c h = grind (arith, nat_tests)

pub digit-at : (ds : List ℕ) (i : ℕ) → AllDigits 10 ds → i < length ds → digit_value (get_or ds i 0) < 10
digit-at [] i all lt = absurd (omega arith)
digit-at (d ∷ ds) zero all lt = all.0
digit-at (d ∷ ds) (suc i) all lt = digit-at ds i all.1 (omega arith)

pub after-more : (n : ℕ) (ds : List ℕ) (i : ℕ) → i < length ds → digits_value_after 10 n (take (i + 1) ds) ≡ digits_value_after 10 n (take i ds) * 10 + digit_value (get_or ds i 0)
after-more n [] i lt = absurd (omega arith)
after-more n (d ∷ ds) zero lt = refl
after-more n (d ∷ ds) (suc i) lt =
    let k : suc i + 1 ≡ suc (i + 1) = omega arith in
    rw k (after-more (n * 10 + digit_value d) ds i (omega arith))

after-le : (n : ℕ) (ds : List ℕ) → n ≤ digits_value_after 10 n ds
after-le n [] = omega arith
after-le n (d ∷ ds) = omega (arith, after-le (n * 10 + digit_value d) ds)

pub part-le : (n : ℕ) (ds : List ℕ) (i : ℕ) → digits_value_after 10 n (take i ds) ≤ digits_value_after 10 n ds
part-le n ds zero = after-le n ds
part-le n [] (suc i) = omega arith
part-le n (d ∷ ds) (suc i) = part-le (n * 10 + digit_value d) ds i

pub after-append : (n : ℕ) (xs ys : List ℕ) → digits_value_after 10 n (xs ++ ys) ≡ digits_value_after 10 (digits_value_after 10 n xs) ys
after-append n [] ys = refl
after-append n (x ∷ xs) ys = after-append (n * 10 + digit_value x) xs ys

all-append : (xs ys : List ℕ) → AllDigits 10 xs → AllDigits 10 ys → AllDigits 10 (xs ++ ys)
all-append [] ys h k = k
all-append (x ∷ xs) ys h k = (h.0, all-append xs ys h.1 k)

-- 38 digits fit
pub short-fits : (xs ys : List ℕ) → AllDigits 10 xs → AllDigits 10 ys → length xs + length ys ≤ 38 → digits_value 10 (xs ++ ys) < 2 ^ 127
short-fits xs ys h k le =
    let lt = digits_value-lt 10 (xs ++ ys) (all-append xs ys h k) in
    let len : length (xs ++ ys) ≤ 38 = simp length-append le in
    let more : 10 ^ length (xs ++ ys) ≤ 10 ^ 38 = pow-le-pow_right (omega arith) len in
    omega (arith, lt, more)

pub first-fits : (xs ys : List ℕ) → AllDigits 10 xs → AllDigits 10 ys → length xs + length ys ≤ 38 → digits_value 10 xs < 2 ^ 127
first-fits xs ys h k le = omega (arith, short-fits xs ys h k le, after-append 0 xs ys, after-le (digits_value 10 xs) ys)

pub both-fit : (xs ys : List ℕ) → AllDigits 10 xs → AllDigits 10 ys → length xs + length ys ≤ 38 → digits_value_after 10 (digits_value 10 xs) ys < 2 ^ 127
both-fit xs ys h k le = omega (arith, short-fits xs ys h k le, after-append 0 xs ys)
