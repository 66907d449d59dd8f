-- Worked examples, computed from the definitions. The numbers and their texts are those of other programs, as Python's `repr`.
use Rattle.std.specs.Prelude.{◌≡◌, refl, codes}
use Rattle.std.specs.Float.Ieee.{binary32, binary64, odd, round, to_bits}
use Rattle.float_text.specs.Half.{half_text, single_of_half}
use Rattle.float_text.specs.Shortest.{reads_as, rounded, shortest_decimal, shortest_from}
use Rattle.float_text.specs.Text.{float_text, with_point}

-- ---- digits and powers: 1 * 10 ^ (341 - 342) is 0.1

-- 0.1
tenth : shortest_decimal binary64 0x3fb9_9999_9999_999a ≡ (1, 341)
unfolding shortest_from rounded reads_as round to_bits
tenth = refl

-- 1
one : shortest_decimal binary64 0x3ff0_0000_0000_0000 ≡ (1, 342)
unfolding shortest_from rounded reads_as round to_bits
one = refl

-- 123.45
cents : shortest_decimal binary64 0x405e_dccc_cccc_cccd ≡ (12345, 340)
unfolding shortest_from rounded reads_as round to_bits
cents = refl

-- 1 / 3, to 16 digits
third : shortest_decimal binary64 0x3fd5_5555_5555_5555 ≡ (3333333333333333, 326)
unfolding shortest_from rounded reads_as round to_bits
third = refl

-- 0.1 + 0.2, to 17 digits
sum : shortest_decimal binary64 0x3fd3_3333_3333_3334 ≡ (30000000000000004, 325)
unfolding shortest_from rounded reads_as round to_bits
sum = refl

-- 10^23, which is above this number
large : shortest_decimal binary64 0x44b5_2d02_c7e1_4af6 ≡ (1, 365)
unfolding shortest_from rounded reads_as round to_bits
large = refl

-- the largest number
largest : shortest_decimal binary64 0x7fef_ffff_ffff_ffff ≡ (17976931348623157, 634)
unfolding shortest_from rounded reads_as round to_bits
largest = refl

-- the least number above 0
least : shortest_decimal binary64 0x0000_0000_0000_0001 ≡ (5, 18)
unfolding shortest_from rounded reads_as round to_bits
least = refl

-- 2^-44: the closest decimal of 16 digits reads as its lower neighbour
power : shortest_decimal binary64 0x3d30_0000_0000_0000 ≡ (5684341886080802, 313)
unfolding shortest_from rounded reads_as round to_bits
power = refl

-- 0.1 as a single
single-tenth : shortest_decimal binary32 0x3dcc_cccd ≡ (1, 341)
unfolding shortest_from rounded reads_as round to_bits
single-tenth = refl

-- 1 / 3 as a single
single-third : shortest_decimal binary32 0x3eaa_aaab ≡ (33333334, 334)
unfolding shortest_from rounded reads_as round to_bits
single-third = refl

-- the least single above 0
single-least : shortest_decimal binary32 0x0000_0001 ≡ (1, 297)
unfolding shortest_from rounded reads_as round to_bits
single-least = refl

-- ---- layouts

cents-text : with_point binary64 (codes "12345") 345 ≡ codes "123.45"
cents-text = refl

whole-text : with_point binary64 (codes "12") 344 ≡ codes "12.0"
whole-text = refl

zeros-text : with_point binary64 (codes "12") 345 ≡ codes "120.0"
zeros-text = refl

small-text : with_point binary64 (codes "12") 338 ≡ codes "0.000012"
small-text = refl

-- ---- names

nan-text : float_text binary64 0xfff8_0000_0000_0001 ≡ codes "NaN"
nan-text = refl

infinity-text : float_text binary64 0x7ff0_0000_0000_0000 ≡ codes "Infinity"
infinity-text = refl

negative-infinity-text : float_text binary32 0xff80_0000 ≡ codes "-Infinity"
negative-infinity-text = refl

negative-zero-text : float_text binary64 0x8000_0000_0000_0000 ≡ codes "-0.0"
negative-zero-text = refl

-- ---- half-precision numbers: the singles are those of numpy

-- 1
half-one : single_of_half 0x3c00 ≡ 0x3f80_0000
unfolding odd to_bits
half-one = refl

-- the half closest to 1 / 3
half-third : single_of_half 0x3555 ≡ 0x3eaa_a000
unfolding odd to_bits
half-third = refl

-- 65504, the largest
half-largest : single_of_half 0xfbff ≡ 0xc77f_e000
unfolding odd to_bits
half-largest = refl

-- 2^-14, the least with a leading 1
half-normal : single_of_half 0x0400 ≡ 0x3880_0000
unfolding odd to_bits
half-normal = refl

-- 1023 / 2^24, the largest without
half-subnormal : single_of_half 0x03ff ≡ 0x387f_c000
unfolding odd to_bits
half-subnormal = refl

-- 2^-24, the least above 0
half-least : single_of_half 0x0001 ≡ 0x3380_0000
unfolding odd to_bits
half-least = refl

half-negative-zero : single_of_half 0x8000 ≡ 0x8000_0000
unfolding odd to_bits
half-negative-zero = refl

half-infinity : half_text 0xfc00 ≡ codes "-Infinity"
unfolding to_bits
half-infinity = refl

half-nan : half_text 0xfe01 ≡ codes "NaN"
unfolding to_bits
half-nan = refl
