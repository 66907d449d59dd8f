-- Worked examples of halves from text, computed from the definitions.
use Rattle.std.specs.Prelude.{◌≡◌, refl, codes, Some, None}
use Rattle.std.specs.Float.Ieee.{size}
use Rattle.fast_float.proofs.OnLiterals.{fast_float_on_literals}
use Rattle.json_read.specs.HalfNumbers.{half_number_bits}

one : half_number_bits (codes "1") ≡ Some 0x3c00
unfolding fast_float_on_literals size
one = refl

negative-zero : half_number_bits (codes "-0.0") ≡ Some 0x8000
unfolding fast_float_on_literals size
negative-zero = refl

-- the largest, and the numbers that round to it
largest : half_number_bits (codes "65504") ≡ Some 0x7bff
unfolding fast_float_on_literals size
largest = refl

below-limit : half_number_bits (codes "-65519.99") ≡ Some 0xfbff
unfolding fast_float_on_literals size
below-limit = refl

limit : half_number_bits (codes "65520") ≡ None
unfolding fast_float_on_literals size
limit = refl

past : half_number_bits (codes "1e400") ≡ None
unfolding fast_float_on_literals size
past = refl

-- 2^-24, the least above 0, and 2^-25, a tie with 0
least : half_number_bits (codes "5.9604644775390625e-8") ≡ Some 0x0001
unfolding fast_float_on_literals size
least = refl

half-of-least : half_number_bits (codes "2.98023223876953125e-8") ≡ Some 0x0000
unfolding fast_float_on_literals size
half-of-least = refl

above-half-of-least : half_number_bits (codes "2.98023223876953125000000000000000001e-8") ≡ Some 0x0001
unfolding fast_float_on_literals size
above-half-of-least = refl

-- ties to even: the double nearest to the second of these texts is the tie itself
tie-below : half_number_bits (codes "2049") ≡ Some 0x6800
unfolding fast_float_on_literals size
tie-below = refl

above-tie : half_number_bits (codes "2049.0000000000000001") ≡ Some 0x6801
unfolding fast_float_on_literals size
above-tie = refl

tie-above : half_number_bits (codes "2051") ≡ Some 0x6802
unfolding fast_float_on_literals size
tie-above = refl

below-tie : half_number_bits (codes "2050.9999999999999999") ≡ Some 0x6801
unfolding fast_float_on_literals size
below-tie = refl

-- the largest below 2^-14, and 2^-14, the least with 11 digits
subnormal : half_number_bits (codes "6.1e-5") ≡ Some 0x03ff
unfolding fast_float_on_literals size
subnormal = refl

normal : half_number_bits (codes "6.103e-5") ≡ Some 0x0400
unfolding fast_float_on_literals size
normal = refl

no-number : half_number_bits (codes "inf") ≡ None
unfolding fast_float_on_literals size
no-number = refl
