-- What is printed of a slot without children is read as that slot.
use Rattle.std.proofs.Common.{◌≡◌, ℕ, suc, ◌+◌, ◌*◌, ◌/◌, ◌%◌, ◌^◌, ◌<◌, ◌≤◌, ◌-◌, lit≤, ℤ, pos, negsuc, neg_ℤ, List, [], ◌∷◌, true, false, Some, None, unwrap_or, refl, ap, ap₂, ◌∙◌, inl, inr, arith, lt-ltb, le-ltb as ge-ltb}
use Rattle.std.specs.Prelude.{◌==◌}
use Rattle.std.proofs.Math.Pow.{pow_mono}
use Rattle.std.specs.Char.{digit_char, digit_value}
use Rattle.std.specs.Fmt.{decimal, signed_decimal}
use Rattle.std.specs.Int.Signed.{mag}
use Rattle.std.specs.Str.Parse.{IsNumeral, digits_value}
use Rattle.std.proofs.lemmas.Bool.{cases_lt}
use Rattle.std.proofs.lemmas.Fmt.{decimal_is_IsNumeral_wide}
use Rattle.std.proofs.lemmas.Str.Parse.{digit_from_value}
use borrow.Author.Tests.{ne_eqb}
use Rattle.json.specs.Json.{number}
use Rattle.json_read.specs.FlatValues.{Range, signed, unsigned, is_in, ranges_of, integer_error, native_error, number_error, number_in, is_hex}
use Rattle.json_read.specs.FlatRoundTrip.{AreInRange, BytesRoundTrip}
use Rattle.json_read.specs.NativeNumbers.{numbers_in}
use Rattle.json_read.specs.RoundTrip.{AreBytes}
use Rattle.json_read.specs.Integers.{integer_of}
use Rattle.nest_memory.specs.declared.datatypes.physical_type.PrimitiveType.{PrimitiveType}
use Rattle.nest_memory.specs.declared.datatypes.physical_type.PrimitiveType.TheVariants as primitive
use Rattle.json_read.proofs.Wholes.{are-digits, signed-in, unsigned-in}
use Rattle.json_write.specs.JsonTree.{tree_of_number}

-- ---- numbers

unsigned-whole : (ds : List ℕ) → IsNumeral 10 ds → integer_of ds ≡ Some (pos (digits_value 10 ds))
unsigned-whole [] n = absurd (omega (arith, n.0))
unsigned-whole (c ∷ cs) n =
    let digit = digit_from_value c n.1.0 in
    let no_minus : (c == 45) ≡ false = ne_eqb c 45 (λ e. omega (arith, digit.0, e)) in
    rw (no_minus, are-digits (c ∷ cs) n) refl

pub decimal-back : (z : ℤ) → mag z < 2 ^ 128 → integer_of (signed_decimal z) ≡ Some z
decimal-back (pos n) h = let d = decimal_is_IsNumeral_wide n (omega arith) in unsigned-whole (decimal n) d.0 ∙ ap (λ x. Some (pos x)) d.1
decimal-back (negsuc n) h =
    let d = decimal_is_IsNumeral_wide (suc n) (omega arith) in
    rw (are-digits (decimal (suc n)) d.0) (ap (λ x. Some (neg_ℤ (pos x))) d.1)

-- what the ranges have is of 128 bits
pub signed-mag : (bits : ℕ) (z : ℤ) → bits ≤ 128 → is_in (signed bits) z ≡ true → mag z < 2 ^ 128
signed-mag bits z h e = let k : bits - 1 ≤ 128 = omega arith in omega (arith, signed-in bits z e, pow_mono k)

pub unsigned-mag : (bits : ℕ) (z : ℤ) → bits ≤ 128 → is_in (unsigned bits) z ≡ true → mag z < 2 ^ 128
unsigned-mag bits (pos n) h e = omega (arith, unsigned-in bits n e, pow_mono h)
unsigned-mag bits (negsuc m) h e = absurd (cc)

number-back : (r : Range) (z : ℤ) → is_in r z ≡ true → mag z < 2 ^ 128 → (number_error r (number (signed_decimal z)) ≡ None) × (number_in (number (signed_decimal z)) ≡ z)
number-back r z e h = let d = decimal-back z h in (ap (integer_error r) d ∙ rw e refl, ap (λ o. unwrap_or o (pos 0)) d)

one-back : (r : Range) (z : ℤ) → (number_error r (number (signed_decimal z)) ≡ None) × (number_in (number (signed_decimal z)) ≡ z) → (number_error r (number (signed_decimal z)) ≡ None) × (number_in (number (signed_decimal z)) ∷ [] ≡ z ∷ [])
one-back r z h = (h.0, ap (λ x. x ∷ []) h.1)

signed-back : (bits : ℕ) (z : ℤ) → bits ≤ 128 → is_in (signed bits) z ≡ true → (number_error (signed bits) (number (signed_decimal z)) ≡ None) × (number_in (number (signed_decimal z)) ≡ z)
signed-back bits z h e = number-back (signed bits) z e (signed-mag bits z h e)

unsigned-back : (bits : ℕ) (z : ℤ) → bits ≤ 128 → is_in (unsigned bits) z ≡ true → (number_error (unsigned bits) (number (signed_decimal z)) ≡ None) × (number_in (number (signed_decimal z)) ≡ z)
unsigned-back bits z h e = number-back (unsigned bits) z e (unsigned-mag bits z h e)

abbrev pub PlainRoundTrip : PrimitiveType → List ℤ → Type 0
PlainRoundTrip p zs = (native_error (ranges_of p) (tree_of_number zs) ≡ None) × (numbers_in (tree_of_number zs) ≡ zs)

pub numbers-back : (p : PrimitiveType) (z : ℤ) (zs : List ℤ) → AreInRange (ranges_of p) (z ∷ zs) → PlainRoundTrip p (z ∷ zs)
numbers-back primitive.Int8 z [] h = one-back (signed 8) z (signed-back 8 z (lit≤ tt) h.0)
numbers-back primitive.Int8 z (y ∷ ys) h = absurd h.1
numbers-back primitive.Int16 z [] h = one-back (signed 16) z (signed-back 16 z (lit≤ tt) h.0)
numbers-back primitive.Int16 z (y ∷ ys) h = absurd h.1
numbers-back primitive.Int32 z [] h = one-back (signed 32) z (signed-back 32 z (lit≤ tt) h.0)
numbers-back primitive.Int32 z (y ∷ ys) h = absurd h.1
numbers-back primitive.Int64 z [] h = one-back (signed 64) z (signed-back 64 z (lit≤ tt) h.0)
numbers-back primitive.Int64 z (y ∷ ys) h = absurd h.1
numbers-back primitive.Int128 z [] h = one-back (signed 128) z (signed-back 128 z (lit≤ tt) h.0)
numbers-back primitive.Int128 z (y ∷ ys) h = absurd h.1
numbers-back primitive.UInt8 z [] h = one-back (unsigned 8) z (unsigned-back 8 z (lit≤ tt) h.0)
numbers-back primitive.UInt8 z (y ∷ ys) h = absurd h.1
numbers-back primitive.UInt16 z [] h = one-back (unsigned 16) z (unsigned-back 16 z (lit≤ tt) h.0)
numbers-back primitive.UInt16 z (y ∷ ys) h = absurd h.1
numbers-back primitive.UInt32 z [] h = one-back (unsigned 32) z (unsigned-back 32 z (lit≤ tt) h.0)
numbers-back primitive.UInt32 z (y ∷ ys) h = absurd h.1
numbers-back primitive.UInt64 z [] h = one-back (unsigned 64) z (unsigned-back 64 z (lit≤ tt) h.0)
numbers-back primitive.UInt64 z (y ∷ ys) h = absurd h.1
numbers-back primitive.Float16 z zs h = absurd h
numbers-back primitive.Float32 z zs h = absurd h
numbers-back primitive.Float64 z zs h = absurd h
numbers-back primitive.Int256 z [] h = absurd h.1
numbers-back primitive.Int256 z (y ∷ []) h = rw ((signed-back 128 z (lit≤ tt) h.0).0, (signed-back 128 z (lit≤ tt) h.0).1, (unsigned-back 128 y (lit≤ tt) h.1.0).0, (unsigned-back 128 y (lit≤ tt) h.1.0).1) (refl, refl)
numbers-back primitive.Int256 z (y ∷ x ∷ xs) h = absurd h.1.1
numbers-back primitive.DaysMs z [] h = absurd h.1
numbers-back primitive.DaysMs z (y ∷ []) h = rw ((signed-back 32 z (lit≤ tt) h.0).0, (signed-back 32 z (lit≤ tt) h.0).1, (signed-back 32 y (lit≤ tt) h.1.0).0, (signed-back 32 y (lit≤ tt) h.1.0).1) (refl, refl)
numbers-back primitive.DaysMs z (y ∷ x ∷ xs) h = absurd h.1.1
numbers-back primitive.MonthDayNano z [] h = absurd h.1
numbers-back primitive.MonthDayNano z (y ∷ []) h = absurd h.1.1
numbers-back primitive.MonthDayNano z (y ∷ x ∷ []) h = rw ((signed-back 32 z (lit≤ tt) h.0).0, (signed-back 32 z (lit≤ tt) h.0).1, (signed-back 32 y (lit≤ tt) h.1.0).0, (signed-back 32 y (lit≤ tt) h.1.0).1, (signed-back 64 x (lit≤ tt) h.1.1.0).0, (signed-back 64 x (lit≤ tt) h.1.1.0).1) (refl, refl)
numbers-back primitive.MonthDayNano z (y ∷ x ∷ w ∷ ws) h = absurd h.1.1.1

-- ---- bytes

digit-back : (d : ℕ) → d < 16 → digit_value (digit_char d) ≡ d
digit-back d h = elim (cases_lt d 10) [
  | inl small ↦ rw (lt-ltb d 10 small) (rw (ge-ltb (48 + d) 48 (omega arith), lt-ltb (48 + d) 58 (omega arith)) (omega arith))
  | inr large ↦ rw (ge-ltb d 10 large) (rw (ge-ltb (87 + d) 48 (omega arith), ge-ltb (87 + d) 58 (omega arith), ge-ltb (87 + d) 65 (omega arith), ge-ltb (87 + d) 91 (omega arith), ge-ltb (87 + d) 97 (omega arith), lt-ltb (87 + d) 123 (omega arith)) (omega arith))
]

hex-back : (d : ℕ) → d < 16 → is_hex (digit_char d) ≡ true
hex-back d h = rw (digit-back d h) (lt-ltb d 16 h)

pub bytes-back : (bs : List ℕ) → AreBytes bs → BytesRoundTrip bs
bytes-back [] h = (refl, refl)
bytes-back (b ∷ bs) h =
    let high : b / 16 < 16 = omega (arith, h.0) in
    let low : b % 16 < 16 = omega arith in
    let rest = bytes-back bs h.1 in
    let same : b / 16 * 16 + b % 16 ≡ b = omega arith in (
      rw (hex-back (b / 16) high, hex-back (b % 16) low) rest.0,
      ap₂ (λ (x : ℕ) (xs : List ℕ). x ∷ xs) (ap₂ (λ (x : ℕ) y. x * 16 + y) (digit-back (b / 16) high) (digit-back (b % 16) low) ∙ same) rest.1,
    )
