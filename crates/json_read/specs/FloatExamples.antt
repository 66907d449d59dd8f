-- Worked examples of floating-point numbers from JSON, computed from the definitions. The bits are those of IEEE 754.
use Rattle.std.specs.Prelude.{◌≡◌, refl, codes, pos, [], ◌∷◌, Some}
use Rattle.std.specs.Float.Ieee.{size, to_bits}
use Rattle.fast_float.proofs.OnLiterals.{fast_float_on_literals}
use Rattle.json.specs.Json as json
use Rattle.json_read.specs.FlatValues.{float_error}
use Rattle.json_read.specs.FloatValues.{float_numbers}
use Rattle.json_read.specs.declared.value_error.ValueError.TheVariants.{InvalidText, OutOfRange}
use Rattle.nest_memory.specs.declared.datatypes.floats.Precision.TheVariants.{Half, Single, Double}

one-and-a-half : float_numbers Double (json.number (codes "1.5")) ≡ pos 0x3ff8_0000_0000_0000 ∷ []
unfolding fast_float_on_literals to_bits
one-and-a-half = refl

-- the same as a single
single : float_numbers Single (json.number (codes "1.5")) ≡ pos 0x3fc0_0000 ∷ []
unfolding fast_float_on_literals to_bits
single = refl

-- the nearest to a tenth
tenth : float_numbers Single (json.number (codes "0.1")) ≡ pos 0x3dcc_cccd ∷ []
unfolding fast_float_on_literals to_bits
tenth = refl

not-a-number : float_numbers Double (json.string (codes "NaN")) ≡ pos 0x7ff8_0000_0000_0000 ∷ []
unfolding fast_float_on_literals to_bits
not-a-number = refl

negative-infinity : float_numbers Double (json.string (codes "-Infinity")) ≡ pos 0xfff0_0000_0000_0000 ∷ []
unfolding fast_float_on_literals to_bits
negative-infinity = refl

-- past the range of doubles, and of singles
past : float_error Double (json.number (codes "1e400")) ≡ Some OutOfRange
unfolding fast_float_on_literals to_bits
past = refl

single-past : float_error Single (json.number (codes "1e39")) ≡ Some OutOfRange
unfolding fast_float_on_literals to_bits
single-past = refl

-- a name is written as here, and a string of a number is no number
other-name : float_error Double (json.string (codes "nan")) ≡ Some InvalidText
other-name = refl

number-string : float_error Double (json.string (codes "1.5")) ≡ Some InvalidText
number-string = refl

-- a half, and one that is past the range
half : float_numbers Half (json.number (codes "1.5")) ≡ pos 0x3e00 ∷ []
unfolding fast_float_on_literals size
half = refl

half-past : float_error Half (json.number (codes "65520")) ≡ Some OutOfRange
unfolding fast_float_on_literals size
half-past = refl

half-not-a-number : float_numbers Half (json.string (codes "NaN")) ≡ pos 0x7e00 ∷ []
half-not-a-number = refl

half-other-name : float_error Half (json.string (codes "inf")) ≡ Some InvalidText
half-other-name = refl
