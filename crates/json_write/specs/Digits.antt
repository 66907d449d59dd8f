-- Decimal digits, as ASCII.
use Rattle.std.specs.Prelude.{ℕ, zero, suc, ◌+◌, ◌/◌, ◌%◌, ◌^◌, ◌==◌, nat_lt, ℤ, pos, unsigned_abs, int_lt, List, [], ◌∷◌, ◌++◌, map, if◌then◌else◌}
use Rattle.std.specs.Fmt.{sign_text}
use Rattle.std.specs.Int.Digits.{digits_of}

abbrev pub digit : ℕ → ℕ
digit d = 48 + d

-- a number of any size, without leading zeros
unfoldable pub number_text : ℕ → List ℕ
number_text n = if n == 0 then 48 ∷ [] else map digit (digits_of 10 n)

-- an integer, with a sign if it is negative
abbrev pub signed_integer_text : ℤ → List ℕ
signed_integer_text z = sign_text (int_lt z (pos 0)) ++ number_text (unsigned_abs z)

-- the last `k` digits of a number, with leading zeros if it has fewer
unfoldable pub last_digits : ℕ → ℕ → List ℕ
last_digits zero n = []
last_digits (suc k) n = last_digits k (n / 10) ++ digit (n % 10) ∷ []

-- at least `k` digits
abbrev pub at_least : ℕ → ℕ → List ℕ
at_least k n = if nat_lt n (10 ^ k) then last_digits k n else number_text n

-- the point and `k` digits after it, or nothing if there are none
abbrev pub fraction_text : ℕ → ℕ → List ℕ
fraction_text k n = if k == 0 then [] else 46 ∷ last_digits k n
