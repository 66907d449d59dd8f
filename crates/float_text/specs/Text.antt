-- Numbers of IEEE 754 as decimal text: the digits of the shortest decimal, with a point or an exponent. It is the text of the Rust crate `ryu`.
use Rattle.std.specs.Prelude.{◌≡◌, ℕ, ◌+◌, ◌-◌, ◌*◌, ◌%◌, ◌<◌, ◌≤◌, ◌⊎◌, ◌==◌, nat_lt, Bool, not, List, [], ◌∷◌, ◌++◌, length, take, drop, replicate, codes, if◌then◌else◌, ⊤}
use Rattle.std.specs.Float.Ieee.{Format, binary32, binary64, hid, ones, top}
use Rattle.std.specs.Fmt.{decimal, sign_text}
use Rattle.float_text.specs.Shortest.{shortest_decimal}

-- the longest whole part, and the most zeros after the point, that are written without an exponent
abbrev pub whole_digits : Format → ℕ
whole_digits binary32 = 13
whole_digits binary64 = 16

abbrev pub leading_zeros : Format → ℕ
leading_zeros binary32 = 5
leading_zeros binary64 = 4

abbrev pub zeros : ℕ → List ℕ
zeros n = replicate n 48

-- one digit before the point, and an exponent; the digits are worth 0.digits * 10 ^ (point - 342)
abbrev pub with_exponent : List ℕ → ℕ → List ℕ
with_exponent digits point =
    take 1 digits ++ ((if nat_lt 1 (length digits) then 46 ∷ drop 1 digits else []) ++ 101 ∷ (if nat_lt point 343 then 45 ∷ decimal (343 - point) else decimal (point - 343)))

-- a point among the digits, or zeros before or after them, where they are few
abbrev pub with_point : Format → List ℕ → ℕ → List ℕ
with_point f digits point =
    if nat_lt point 343 then (if nat_lt (point + leading_zeros f) 342 then with_exponent digits point else 48 ∷ 46 ∷ (zeros (342 - point) ++ digits))
    else (if nat_lt point (342 + length digits) then take (point - 342) digits ++ 46 ∷ drop (point - 342) digits
    else (if nat_lt (342 + whole_digits f) point then with_exponent digits point else digits ++ (zeros (point - 342 - length digits) ++ 46 ∷ 48 ∷ [])))

-- a finite number above 0, by its bits
abbrev pub size_text : Format → ℕ → List ℕ
size_text f bits = let d = shortest_decimal f bits in with_point f (decimal d.0) (length (decimal d.0) + d.1)

-- the bits without the sign
abbrev pub size_of : Format → ℕ → ℕ
size_of f bits = bits % top f

abbrev pub is_negative : Format → ℕ → Bool
is_negative f bits = not (nat_lt bits (top f))

abbrev pub is_finite : Format → ℕ → Bool
is_finite f bits = nat_lt (size_of f bits) (ones f * hid f)

-- any number, by its bits
abbrev pub float_text : Format → ℕ → List ℕ
float_text f bits =
    if nat_lt (ones f * hid f) (size_of f bits) then codes "NaN"
    else sign_text (is_negative f bits) ++ (if size_of f bits == ones f * hid f then codes "Infinity" else (if size_of f bits == 0 then codes "0.0" else size_text f (size_of f bits)))

-- a digit, a point, an `e` or a minus sign
abbrev pub IsNumberByte : ℕ → Type 0
IsNumberByte b = ((48 ≤ b) × (b < 58)) ⊎ ((b ≡ 46) ⊎ ((b ≡ 101) ⊎ (b ≡ 45)))

abbrev pub AreNumberBytes : List ℕ → Type 0
AreNumberBytes [] = ⊤
AreNumberBytes (b ∷ bs) = IsNumberByte b × AreNumberBytes bs

-- the text is not empty, and begins with a digit or a minus sign
abbrev pub BeginsAsNumber : List ℕ → Type 0
BeginsAsNumber text = (b : ℕ) × (bs : List ℕ) × (text ≡ b ∷ bs) × (((48 ≤ b) × (b < 58)) ⊎ (b ≡ 45))
